-- The exit status of a failure, and what is printed of it.
use Rattle.std.specs.Prelude.{ℕ, Bool, true, false, if◌then◌else◌, Option, Some, None, option_map, List, [], ◌++◌, codes}
use Rattle.std.specs.declared.io.ErrorKind.{ErrorKind}
use Rattle.std.specs.declared.io.ErrorKind.TheVariants as kind
use Rattle.rv_faults.specs.CommandFault.{refusal_output, status}
use Rattle.rv_command.specs.declared.command.LineFault.{LineFault}
use Rattle.rv_command.specs.declared.command.LineFault.TheVariants as fault
use Rattle.rv_command.specs.Status.{code}
use Rattle.rv_command.specs.declared.status.Status.TheVariants as exit
use Rattle.rvcollide.specs.declared.failure.Failure.{Failure}
use Rattle.rvcollide.specs.declared.failure.Failure.TheVariants.{Line, NotText, Told, Filed, OfFile, Found, Void}
use Rattle.rv_faults.specs.declared.fault.Fault.{Fault}
use Rattle.rv_faults.specs.declared.fault.Fault.TheVariants.{NoMemory, Read, Write}
use Rattle.rv_faults.specs.declared.command.CommandFault.{CommandFault}
use Rattle.rv_faults.specs.declared.command.CommandFault.TheVariants.{Plain}
use Rattle.rv_faults.specs.declared.sentences.FaultLine.{FaultLine}
use Rattle.rv_faults.specs.Sentences.{line_output}
use Rattle.rv_faults.specs.Shown.{shown}
use Rattle.rv_tables.specs.merge.FileFaultText as file
use Rattle.rv_tables.specs.declared.merge.fault.FileFault.{FileFault}
use Rattle.rv_tables.specs.declared.merge.fault.FileFault.TheVariants as files
use Rattle.rv_files.specs.System as system
use Rattle.rv_files.specs.declared.system.SystemSaid.{SystemSaid}
use Rattle.rvcollide.specs.declared.file_line.FileLine.{FileLine}
use Rattle.rvcollide.specs.declared.file_line.FilePlace.{FilePlace}
use Rattle.rv_files.specs.Saved.{schedule_file}

-- a device has failed
abbrev pub is_of_device : FileFault → Bool
is_of_device (files.Plain Read) = true
is_of_device (files.Plain Write) = true
is_of_device _ = false

-- what is wrong, or what to do: where the file was to be made and was there already; where the system said why a device failed; and else
abbrev pub sentence_of : Bool → Option SystemSaid → FileFault → List ℕ
sentence_of true said fault = codes "that file is there already: name another folder"
sentence_of false None fault = file.sentence fault
sentence_of false (Some said) fault = if is_of_device fault then system.sentence said else file.sentence fault

-- `FAULT: SENTENCE`, of a file of a hunt
abbrev pub file_said_output : Bool → Option SystemSaid → FileFault → Option (List ℕ)
file_said_output stands said fault = option_map (λ words. words ++ (codes ": " ++ sentence_of stands said fault)) (file.fault_output fault)

abbrev pub place_output : FilePlace → List ℕ
place_output place = shown place.path.now ++ schedule_file place.schedule

abbrev pub after_place : Option FilePlace → List ℕ → List ℕ
after_place None said = said
after_place (Some place) said = place_output place ++ (codes ": " ++ said)

-- the same after the file, where one is at fault
abbrev pub file_line_output : FileLine → Option (List ℕ)
file_line_output line = option_map (after_place line.file) (file_said_output line.stands line.said line.fault)

-- the exit status: that of a refused command line, those of what a hunt was to look for, and else the fault's
abbrev pub status_of : Failure → ℕ
status_of Line = code exit.Line
status_of NotText = code exit.Line
status_of (Told fault) = status fault
status_of (Filed line) = status line.fault
status_of (OfFile line) = file.status line.fault
status_of Found = code exit.Found
status_of Void = code exit.Void

-- what is wrong was told already
abbrev pub is_told : Failure → Bool
is_told Line = true
is_told NotText = false
is_told (Told fault) = false
is_told (Filed line) = false
is_told (OfFile line) = false
is_told Found = true
is_told Void = true

-- what the program still tells of it, after its own name
abbrev pub failure_output : Failure → Option (List ℕ)
failure_output Line = Some []
failure_output NotText = Some (codes "an argument is not UTF-8")
failure_output (Told fault) = refusal_output fault
failure_output (Filed line) = line_output line
failure_output (OfFile line) = file_line_output line
failure_output Found = Some []
failure_output Void = Some []

abbrev pub told : CommandFault → Failure
told fault = Told fault

abbrev pub filed : FaultLine → Failure
filed line = Filed line

abbrev pub plain : Fault → Failure
plain fault = Told (Plain fault)

abbrev pub memory : Failure
memory = Told (Plain NoMemory)

abbrev pub failure_of_line : LineFault → Failure
failure_of_line fault.Line = Line
failure_of_line fault.NoMemory = Told (Plain NoMemory)

-- what the system answered to the program: that memory is out, that an argument is not UTF-8, or that
-- the standard output failed
abbrev pub failure_of_kind : ErrorKind → Failure
failure_of_kind kind.OutOfMemory = Told (Plain NoMemory)
failure_of_kind kind.InvalidData = NotText
failure_of_kind _ = Told (Plain Write)
