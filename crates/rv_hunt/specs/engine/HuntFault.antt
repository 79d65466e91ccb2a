-- Why `hunt` writes nothing: of which file it says so, and which device failed.
use Rattle.std.specs.Prelude.{◌≡◌, ℕ, Bool, true, false, Option, Result, Ok, Err, List, IfOk, IsOkAnd}
use Rattle.std.specs.Result.{IsOk}
use Rattle.rv_elf.specs.Contents.{Contents}
use Rattle.rv_faults.specs.CommandFault as command
use Rattle.rv_faults.specs.SourceFile as source
use Rattle.rv_faults.specs.SourceFile.{source_in}
use Rattle.rv_faults.specs.declared.fault.Fault.TheVariants as fault
use Rattle.rv_faults.specs.declared.command.CommandFault.{CommandFault}
use Rattle.rv_faults.specs.declared.command.CommandFault.TheVariants.{Plain, NoThread}
use Rattle.rv_search.specs.Hunt.{Hunt}
use Rattle.rv_shown.specs.Asked.{Asked}
use Rattle.rv_hunt.specs.engine.Hunting.{Files, Hunting, IsHuntingOf, expected_in, hunt_of, ignored_in, sought_in}
use Rattle.rv_hunt.specs.declared.engine.fault.HuntFault.{HuntFault}
use Rattle.rv_hunt.specs.declared.engine.fault.HuntFault.TheVariants.{Command, Ignored, Expected, Aimed, Lines}
use Rattle.rv_tables.specs.merge.FileFault as file
use Rattle.rv_tables.specs.merge.Ignore.{aimed_in, naming_of}
use Rattle.rv_tables.specs.declared.merge.fault.FileFault.{FileFault}
use Rattle.rv_tables.specs.declared.merge.ignore.Line.{Line}
use Rattle.rv_lines.specs.SourceLines.{SourceLine}

-- the fault is neither that a device failed, nor that memory is out, nor that a thread could not be started
abbrev pub is_plain_refusal : CommandFault → Bool
is_plain_refusal (Plain fault.Read) = false
is_plain_refusal (Plain fault.Write) = false
is_plain_refusal (Plain fault.NoMemory) = false
is_plain_refusal NoThread = false
is_plain_refusal given = true

abbrev pub of_command : CommandFault → HuntFault
of_command given = Command given

abbrev pub write_failed : HuntFault
write_failed = Command (Plain fault.Write)

-- the image is not refused, and neither is what is aimed at
abbrev pub IsAimed : Asked → Files → Type 0
IsAimed asked files = IsOkAnd (hunt_of asked files.image) (λ (hunt : Hunt). IsOk (aimed_in hunt.source.image asked.aim))

-- the same, and the source lines aren't: this holds of the list of races to be ignored
abbrev pub IsOfList : Asked → Files → (Result (List Line) FileFault → Type 0) → Type 0
IsOfList asked files Holds =
    IsOkAnd (source_in files.lines) (λ (lines : Option (List SourceLine)). IsOkAnd (hunt_of asked files.image) (λ (hunt : Hunt). Holds (ignored_in (naming_of hunt.source.image lines) files.ignored)))

-- wherever it is looked for, what is aimed at is found
abbrev pub IsAimKnown : Asked → List ℕ → Type 0
IsAimKnown asked bytes = IfOk (sought_in asked bytes) (λ (image : Contents). IsOk (aimed_in image asked.aim))

-- The fault is the one that is told of the files, which are read in their order: the image with the lists of addresses and names; what is
-- aimed at is looked for; then the list of idle functions, the source lines, the list of races to be ignored, and the table of expected
-- ones. That no thread could be started is told only where none of them is refused.
abbrev pub IsTold : Asked → Files → HuntFault → Type 0
IsTold asked files (Command given) =
    command.IsTold (hunt_of asked files.image) (command.refusal given) × (is_plain_refusal given ≡ true → IsAimKnown asked files.image)
    × (command.is_thread (command.refusal given) ≡ true → (hunting : Hunting) × IsHuntingOf asked files hunting)
IsTold asked files (Aimed given) =
    IsOkAnd (sought_in asked files.image) (λ (image : Contents). file.IsTold (aimed_in image asked.aim) given)
IsTold asked files (Lines given) = IsAimed asked files × source.IsTold (source_in files.lines) given
IsTold asked files (Ignored given) = IsAimed asked files × IsOfList asked files (λ read. file.IsTold read given)
IsTold asked files (Expected given) = IsAimed asked files × IsOfList asked files (λ read. IsOk read) × file.IsTold (expected_in files.expected) given

-- the fault is that a reader failed
abbrev pub is_read : HuntFault → Bool
is_read (Command given) = command.is_read (command.refusal given)
is_read (Ignored given) = file.is_read given
is_read (Expected given) = file.is_read given
is_read (Aimed given) = file.is_read given
is_read (Lines given) = source.is_read given

-- the fault is that a writer, a file or a folder failed
abbrev pub is_write : HuntFault → Bool
is_write (Command given) = command.is_write (command.refusal given)
is_write (Ignored given) = file.is_write given
is_write (Expected given) = file.is_write given
is_write (Aimed given) = file.is_write given
is_write (Lines given) = source.is_write given

-- the fault is of what the files or the line say, and of no device
abbrev pub is_of_files : HuntFault → Bool
is_of_files (Command given) = is_plain_refusal given
is_of_files (Ignored given) = true
is_of_files (Expected given) = true
is_of_files (Aimed given) = true
is_of_files (Lines given) = true

-- something was refused, and the fault passes the test
abbrev pub fails_by : {A : Type 0} → (HuntFault → Bool) → Result A HuntFault → Bool
fails_by test (Ok a) = false
fails_by test (Err given) = test given
