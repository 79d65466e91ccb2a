-- What is wrong, or what to do: one sentence for the name of each fault. Newer commands end a fault's line with it, after the
-- file that is at fault.
use Rattle.std.specs.Prelude.{ℕ, Option, Some, None, option_map, List, ◌++◌, codes}
use Rattle.std.specs.Borrow.{Bor}
use Rattle.rv_asm.specs.declared.statement.AsmKind.{AsmKind}
use Rattle.rv_asm.specs.declared.statement.AsmKind.TheVariants as asm
use Rattle.rv_campaign.specs.declared.runs.NumberFault.{NumberFault}
use Rattle.rv_campaign.specs.declared.runs.NumberFault.TheVariants as number
use Rattle.rv_collide.specs.declared.refused.Refused.{Refused}
use Rattle.rv_collide.specs.declared.refused.Refused.TheVariants as refused
use Rattle.rv_collide.specs.declared.replay.Why.{Why}
use Rattle.rv_collide.specs.declared.replay.Why.TheVariants as why
use Rattle.rv_collide.specs.declared.schedule.fault.ScheduleKind.{ScheduleKind}
use Rattle.rv_collide.specs.declared.schedule.fault.ScheduleKind.TheVariants as schedule
use Rattle.rv_elf.specs.declared.fault.LoadFault.{LoadFault}
use Rattle.rv_elf.specs.declared.fault.LoadFault.TheVariants as load
use Rattle.rv_hart.specs.declared.machine.StepFault.{StepFault}
use Rattle.rv_hart.specs.declared.machine.StepFault.TheVariants as step
use Rattle.rv_report.specs.declared.exhibit.ExhibitFault.{ExhibitFault}
use Rattle.rv_report.specs.declared.exhibit.ExhibitFault.TheVariants as exhibit
use Rattle.rv_faults.specs.CommandFault.{refusal_output}
use Rattle.rv_faults.specs.declared.fault.Fault.{Fault}
use Rattle.rv_faults.specs.declared.fault.Fault.TheVariants.{Line, Step, Asm, Load, Schedule, Entry, Threads, Exhibit, TooLong, Read, Write, NoMemory}
use Rattle.rv_faults.specs.declared.fault.ThreadsFault.{ThreadsFault}
use Rattle.rv_faults.specs.declared.fault.ThreadsFault.TheVariants.{NoThread, Stray}
use Rattle.rv_faults.specs.declared.command.CommandFault.{CommandFault}
use Rattle.rv_faults.specs.declared.command.CommandFault.TheVariants as run
use Rattle.rv_faults.specs.declared.sentences.Paths.{Paths}
use Rattle.rv_faults.specs.declared.sentences.FaultLine.{FaultLine}
use Rattle.rv_faults.specs.Shown.{shown}

-- ---- one sentence for each name

abbrev pub read_sentence : List ℕ
read_sentence = codes "cannot read the input: does it exist, and is it a file?"

abbrev pub memory_sentence : List ℕ
memory_sentence = codes "there was not enough memory"

abbrev pub load_sentence : LoadFault → List ℕ
load_sentence load.Truncated = codes "the file ends inside its headers or a segment: was it cut off?"
load_sentence load.NotElf = codes "this is not an ELF file"
load_sentence load.NotElf32Little = codes "the file is ELF, but not 32-bit little-endian"
load_sentence load.NotExecutable = codes "the file is not an executable at fixed addresses: link it without -pie"
load_sentence load.NotRiscV = codes "the file is for another processor"
load_sentence load.NotStatic = codes "the file needs a dynamic linker: link it with -static"
load_sentence load.HeaderSize = codes "a header in the file does not have the size that ELF prescribes"
load_sentence load.TooManySegments = codes "the file has more than 64 program headers"
load_sentence load.FileLongerThanMemory = codes "a segment has more bytes in the file than in memory"
load_sentence load.PastEnd = codes "a segment runs past the last address"
load_sentence load.Overlap = codes "two segments overlap, or one overlaps the stacks at c0000000 to c00fffff"
load_sentence load.TooLarge = codes "the segments add up to more than 16777216 bytes"
load_sentence load.BadEntry = codes "the entry point is misaligned or not in an executable segment"
load_sentence load.BadSymbols = codes "the symbol table is malformed or too large: rebuild the file, or strip it"
load_sentence load.NoMemory = memory_sentence

abbrev pub schedule_sentence : ScheduleKind → List ℕ
schedule_sentence schedule.Read = read_sentence
schedule_sentence schedule.Header = codes "the first line is not that of a schedule: is this the right file?"
schedule_sentence schedule.PlanLine = codes "the plan has the form: harts N steps N arms N pause N slots N"
schedule_sentence schedule.PlanRange = codes "a number in the plan is out of range"
schedule_sentence schedule.Entry = codes "the line is neither an entry nor the end, or a number is out of range"
schedule_sentence schedule.TooMany = codes "there are more entries than the plan's steps plus four times its arms"
schedule_sentence schedule.NoEnd = codes "the line 'end' is missing: was the schedule cut off?"
schedule_sentence schedule.AfterEnd = codes "there is something after the line 'end'"
schedule_sentence schedule.TooLong = codes "the line is longer than 64 bytes"
schedule_sentence schedule.NoMemory = memory_sentence

abbrev pub refused_sentence : Refused → List ℕ
refused_sentence refused.NoHart = codes "the plan has no such hart"
refused_sentence refused.NotRunning = codes "the hart has exited or stopped: is the schedule from another image?"
refused_sentence refused.Paused = codes "the hart is paused: is the schedule from another image?"
refused_sentence refused.StepsSpent = codes "the plan's steps are used up"
refused_sentence refused.NotPaused = codes "the hart is not paused: is the schedule from another image?"
refused_sentence refused.ArmsSpent = codes "the plan's arms are used up"
refused_sentence refused.Misaligned = codes "the address is not a multiple of 4"
refused_sentence refused.AlreadyArmed = codes "the address is already armed"
refused_sentence refused.ArmedFull = codes "too many addresses are armed at once"
refused_sentence refused.NotArmed = codes "the address is not armed"
refused_sentence refused.NoMemory = memory_sentence

abbrev pub why_sentence : Why → List ℕ
why_sentence (why.Refused refused) = refused_sentence refused
why_sentence why.Differs = codes "the run does something else here: is the schedule from another image?"

abbrev pub exhibit_sentence : ExhibitFault → List ℕ
exhibit_sentence exhibit.NoEnding = codes "the schedule has no ending with this number"
exhibit_sentence exhibit.NotReport = codes "the ending is quiet: nothing touched the watched bytes during the pause"
exhibit_sentence exhibit.TextChanged = codes "the paused instruction was overwritten before the second access"
exhibit_sentence exhibit.NoMemory = memory_sentence
exhibit_sentence (exhibit.Replay place why) = why_sentence why

abbrev pub asm_sentence : AsmKind → List ℕ
asm_sentence asm.Word = codes "the line is not a statement, or its operands are malformed"
asm_sentence asm.Register = codes "a register is x0 to x31 or its ABI name"
asm_sentence asm.Range = codes "a number is out of range, or a target is odd or too far away"
asm_sentence asm.LabelTwice = codes "the label is already defined on an earlier line"
asm_sentence asm.LabelUnknown = codes "the source defines no such label"
asm_sentence asm.Directive = codes "there is no such directive, or it is not allowed in this section"
asm_sentence asm.TooLarge = codes "the section, or the label names, would exceed the limit"
asm_sentence asm.NoMemory = memory_sentence
asm_sentence asm.Empty = codes "the source has nothing in .text"

abbrev pub step_sentence : StepFault → List ℕ
step_sentence step.NoHart = codes "there is no such hart"
step_sentence step.NotRunning = codes "the hart has exited or stopped"
step_sentence step.OutputFull = codes "the output is full"
step_sentence step.NoMemory = memory_sentence

abbrev pub threads_sentence : ThreadsFault → List ℕ
threads_sentence NoThread = codes "a thread could not be started: try fewer harts"
threads_sentence Stray = codes "a thread recorded something that is not its hart's part of the schedule"

abbrev pub number_sentence : NumberFault → List ℕ
number_sentence number.TooLarge = codes "the runs could have more than 16777216 entries in total: use fewer runs, steps or arms"
number_sentence number.Runs = codes "the number of runs is out of range"
number_sentence number.Workers = codes "the number of workers is out of range"

abbrev pub fault_sentence : Fault → List ℕ
fault_sentence (Line number) = codes "the line is malformed or missing"
fault_sentence (Step number fault) = step_sentence fault
fault_sentence (Asm fault) = asm_sentence fault.kind
fault_sentence (Load fault) = load_sentence fault
fault_sentence (Schedule fault) = schedule_sentence fault.kind
fault_sentence (Entry place why) = why_sentence why
fault_sentence (Threads fault) = threads_sentence fault
fault_sentence (Exhibit fault) = exhibit_sentence fault
fault_sentence TooLong = codes "the input is larger than 67108864 bytes"
fault_sentence Read = read_sentence
fault_sentence Write = codes "cannot write the output: is there space, and does the folder exist?"
fault_sentence NoMemory = memory_sentence

-- the sentence of any fault
abbrev pub sentence : CommandFault → List ℕ
sentence (run.Plain fault) = fault_sentence fault
sentence (run.Skip element) = codes "an address is eight hexadecimal digits"
sentence (run.Name name) = codes "the image has no symbol with this name"
sentence (run.Campaign fault) = number_sentence fault
sentence run.NoThread = codes "a thread could not be started: try fewer workers"
sentence (run.NoRace races) = codes "there is no race with this number"

-- ---- which file is at fault

abbrev pub optional_path : Paths → Option (List ℕ)
optional_path paths = option_map (λ path. path.now) paths.schedule

abbrev pub failed_path : Paths → Option (List ℕ)
failed_path paths = option_map (λ path. path.now) paths.failed

-- The image's faults are its file's, those of lines, entries, endings and races the schedule's; where a device failed it is that one's file.
-- Lists and numbers of the command line are no file's.
abbrev pub at_fault : Paths → CommandFault → Option (List ℕ)
at_fault paths (run.Plain (Load fault)) = Some paths.image.now
at_fault paths (run.Plain TooLong) = Some paths.image.now
at_fault paths (run.Plain (Schedule fault)) = optional_path paths
at_fault paths (run.Plain (Entry place why)) = optional_path paths
at_fault paths (run.Plain (Exhibit fault)) = optional_path paths
at_fault paths (run.Plain Read) = failed_path paths
at_fault paths (run.Plain Write) = failed_path paths
at_fault paths (run.Name name) = Some paths.image.now
at_fault paths (run.NoRace races) = optional_path paths
at_fault paths _ = None

-- ---- the line

-- `FILE: ` before it, where a file is at fault
abbrev pub in_file : Option (Bor (List ℕ)) → List ℕ → List ℕ
in_file None text = text
in_file (Some path) text = shown path.now ++ (codes ": " ++ text)

-- what is told of the fault itself: an element of a list is shown as a path is
abbrev pub told_output : CommandFault → Option (List ℕ)
told_output (run.Skip element) = Some (codes "skip " ++ shown element.now)
told_output (run.Name name) = Some (codes "name " ++ shown name.now)
told_output fault = refusal_output fault

-- `FAULT: SENTENCE`
abbrev pub said_output : CommandFault → Option (List ℕ)
said_output fault = option_map (λ words. words ++ (codes ": " ++ sentence fault)) (told_output fault)

-- `FILE: FAULT: SENTENCE`, after the program's name
abbrev pub line_output : FaultLine → Option (List ℕ)
line_output line = option_map (in_file line.file) (said_output line.fault)
