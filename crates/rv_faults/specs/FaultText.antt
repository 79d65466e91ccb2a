-- The text of a fault, and its exit status.
use Rattle.std.specs.Prelude.{ℕ, Option, Some, None, List, [], ◌++◌, codes}
use Rattle.std.specs.Fmt.{decimal}
use Rattle.rv_asm.specs.declared.statement.AsmKind.{AsmKind}
use Rattle.rv_asm.specs.declared.statement.AsmKind.TheVariants as kind
use Rattle.rv_hart.specs.declared.machine.StepFault.{StepFault}
use Rattle.rv_hart.specs.declared.machine.StepFault.TheVariants as refused
use Rattle.rv_faults.specs.declared.fault.Fault.{Fault}
use Rattle.rv_faults.specs.declared.fault.Fault.TheVariants.{Line, Step, Asm, Load, Schedule, Entry, Threads, Exhibit, TooLong, Read, Write, NoMemory}
use Rattle.rv_faults.specs.declared.fault.ThreadsFault.{ThreadsFault}
use Rattle.rv_faults.specs.declared.fault.ThreadsFault.TheVariants.{NoThread, Stray}

abbrev pub step_fault_name : StepFault → List ℕ
step_fault_name refused.NoHart = codes "NoHart"
step_fault_name refused.NotRunning = codes "NotRunning"
step_fault_name refused.OutputFull = codes "OutputFull"
step_fault_name refused.NoMemory = codes "NoMemory"

abbrev pub asm_fault_name : AsmKind → List ℕ
asm_fault_name kind.Word = codes "Word"
asm_fault_name kind.Register = codes "Register"
asm_fault_name kind.Range = codes "Range"
asm_fault_name kind.LabelTwice = codes "LabelTwice"
asm_fault_name kind.LabelUnknown = codes "LabelUnknown"
asm_fault_name kind.Directive = codes "Directive"
asm_fault_name kind.TooLarge = codes "TooLarge"
asm_fault_name kind.NoMemory = codes "NoMemory"
asm_fault_name kind.Empty = codes "Empty"

abbrev pub threads_fault_name : ThreadsFault → List ℕ
threads_fault_name NoThread = codes "NoThread"
threads_fault_name Stray = codes "Stray"

-- The fixed words and the number of a fault's line, where the name behind them is another crate's: rv_elf names load
-- faults, rv_collide those of schedules and of entries, rv_report those of exhibits. A line counts from 1 and an entry from 0, as the fault has it.
abbrev pub words_before : Fault → List ℕ
words_before (Load fault) = codes "load "
words_before (Schedule fault) = codes "schedule line " ++ (decimal fault.line ++ codes " ")
words_before (Entry place why) = codes "replay entry " ++ (decimal place ++ codes " ")
words_before (Exhibit fault) = codes "exhibit "
words_before _ = []

-- what the program writes of a fault, after its own name; where the name is another crate's, it is said by `words_before`
abbrev pub fault_output : Fault → Option (List ℕ)
fault_output (Line number) = Some (codes "words line " ++ decimal number)
fault_output (Step number fault) = Some (codes "words step " ++ (decimal number ++ (codes " " ++ step_fault_name fault)))
fault_output (Asm fault) = Some (codes "asm line " ++ (decimal fault.line ++ (codes " " ++ asm_fault_name fault.kind)))
fault_output (Load fault) = None
fault_output (Schedule fault) = None
fault_output (Entry place why) = None
fault_output (Exhibit fault) = None
fault_output (Threads fault) = Some (codes "run " ++ threads_fault_name fault)
fault_output TooLong = Some (codes "input TooLong")
fault_output Read = Some (codes "read")
fault_output Write = Some (codes "write")
fault_output NoMemory = Some (codes "memory")

-- the exit status: 1 for a refused input or run, 3 for a device that failed, 4 for want of memory
abbrev pub status : Fault → ℕ
status (Line number) = 1
status (Step number fault) = 1
status (Asm fault) = 1
status (Load fault) = 1
status (Schedule fault) = 1
status (Entry place why) = 1
status (Threads fault) = 1
status (Exhibit fault) = 1
status TooLong = 1
status Read = 3
status Write = 3
status NoMemory = 4
