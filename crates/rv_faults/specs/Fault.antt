-- Which fault a command may tell, and which device it says has failed.
use Rattle.std.specs.Prelude.{◌≡◌, ⊤, ℕ, Bool, true, false, nat_lt, if◌then◌else◌, Result, Ok, Err, List, length}
use Rattle.rv_asm.specs.declared.fault.AsmFault.{AsmFault}
use Rattle.rv_asm.specs.declared.statement.AsmKind.{AsmKind}
use Rattle.rv_asm.specs.declared.statement.AsmKind.TheVariants as kind
use Rattle.rv_asm.specs.declared.listing.list.ListFault.{ListFault}
use Rattle.rv_asm.specs.declared.listing.list.ListFault.TheVariants as list
use Rattle.rv_collide.specs.ScheduleRead as schedule
use Rattle.rv_collide.specs.ScheduleRead.{is_of_text}
use Rattle.rv_collide.specs.declared.replay.ReplayFault.{ReplayFault}
use Rattle.rv_collide.specs.declared.replay.ReplayFault.TheVariants as replay
use Rattle.rv_collide.specs.declared.schedule.fault.ScheduleFault.{ScheduleFault}
use Rattle.std.specs.declared.convert.Infallible.{Infallible}
use Rattle.rv_debug.specs.declared.fault.TalkFault.{TalkFault}
use Rattle.rv_debug.specs.declared.fault.TalkFault.TheVariants as talk
use Rattle.rv_elf.specs.declared.fault.LoadFault.{LoadFault}
use Rattle.rv_elf.specs.declared.fault.LoadFault.TheVariants as load
use Rattle.rv_words.specs.declared.fault.WordsFault.{WordsFault}
use Rattle.rv_words.specs.declared.fault.WordsFault.TheVariants as words
use Rattle.rv_locked.specs.declared.threads.RunFault.{RunFault}
use Rattle.rv_locked.specs.declared.threads.RunFault.TheVariants as threaded
use Rattle.rv_memory.specs.declared.flagged.TheConstants.{INPUT_LIMIT}
use Rattle.rv_memory.specs.declared.flagged.ReadFault.{ReadFault}
use Rattle.rv_memory.specs.declared.flagged.ReadFault.TheVariants as read
use Rattle.rv_report.specs.declared.exhibit.ExhibitFault.{ExhibitFault}
use Rattle.rv_report.specs.declared.exhibit.ExhibitFault.TheVariants as exhibit
use Rattle.rv_faults.specs.declared.fault.Fault.{Fault}
use Rattle.rv_faults.specs.declared.fault.Fault.TheVariants.{Line, Step, Asm, Load, Schedule, Entry, Threads, Exhibit, TooLong, Read, Write, NoMemory}
use Rattle.rv_faults.specs.declared.fault.ThreadsFault.TheVariants.{NoThread, Stray}

abbrev pub fault_of_words : WordsFault → Fault
fault_of_words (words.Line number) = Line number
fault_of_words (words.Step number fault) = Step number fault
fault_of_words words.NoMemory = NoMemory

-- that memory is out is no fault of the source
abbrev pub fault_of_kind : AsmFault → AsmKind → Fault
fault_of_kind fault kind.NoMemory = NoMemory
fault_of_kind fault _ = Asm fault

abbrev pub fault_of_asm : AsmFault → Fault
fault_of_asm fault = fault_of_kind fault fault.kind

abbrev pub fault_of_load : LoadFault → Fault
fault_of_load load.NoMemory = NoMemory
fault_of_load fault = Load fault

abbrev pub fault_of_list : ListFault → Fault
fault_of_list list.Write = Write
fault_of_list list.NoMemory = NoMemory

-- what a reader or memory did is told as of any input
abbrev pub fault_of_schedule : ScheduleFault → Fault
fault_of_schedule fault = if is_of_text fault.kind then Schedule fault else (if schedule.is_read fault.kind then Read else NoMemory)

abbrev pub fault_of_replay : ReplayFault → Fault
fault_of_replay replay.NoMemory = NoMemory
fault_of_replay (replay.Entry place why) = Entry place why

-- an entry that is not what a call would add is told as `replay` tells it
abbrev pub fault_of_exhibit : ExhibitFault → Fault
fault_of_exhibit exhibit.NoMemory = NoMemory
fault_of_exhibit (exhibit.Replay place why) = Entry place why
fault_of_exhibit fault = Exhibit fault

-- a gate that always lets in gives no value to refuse with
abbrev pub fault_of_threads : RunFault Infallible → Fault
fault_of_threads threaded.NoMemory = NoMemory
fault_of_threads threaded.NoThread = Threads NoThread
fault_of_threads (threaded.GateClosed hart shut) = elim shut [ ]
fault_of_threads (threaded.Stray hart) = Threads Stray

abbrev pub fault_of_read : ReadFault → Fault
fault_of_read read.Read = Read
fault_of_read read.TooLong = TooLong
fault_of_read read.NoMemory = NoMemory

abbrev pub fault_of_talk : TalkFault → Fault
fault_of_talk talk.TooLong = TooLong
fault_of_talk talk.Read = Read
fault_of_talk talk.Write = Write

-- the fault is the one that is told of an input; that a device failed or memory is out says nothing of it
abbrev pub IsToldFault : {A : Type 0} → Result A Fault → Fault → Type 0
IsToldFault told (Line number) = told ≡ Err (Line number)
IsToldFault told (Step number fault) = told ≡ Err (Step number fault)
IsToldFault told (Asm fault) = told ≡ Err (Asm fault)
IsToldFault told (Load fault) = told ≡ Err (Load fault)
IsToldFault told (Schedule fault) = told ≡ Err (Schedule fault)
IsToldFault told (Entry place why) = told ≡ Err (Entry place why)
IsToldFault told (Threads fault) = told ≡ Err (Threads fault)
IsToldFault told (Exhibit fault) = told ≡ Err (Exhibit fault)
IsToldFault told TooLong = told ≡ Err TooLong
IsToldFault told Read = ⊤
IsToldFault told Write = ⊤
IsToldFault told NoMemory = ⊤

-- the fault is that the reader failed
abbrev pub is_read : Fault → Bool
is_read (Line number) = false
is_read (Step number fault) = false
is_read (Asm fault) = false
is_read (Load fault) = false
is_read (Schedule fault) = false
is_read (Entry place why) = false
is_read (Threads fault) = false
is_read (Exhibit fault) = false
is_read TooLong = false
is_read Read = true
is_read Write = false
is_read NoMemory = false

-- the fault is that the writer failed
abbrev pub is_write : Fault → Bool
is_write (Line number) = false
is_write (Step number fault) = false
is_write (Asm fault) = false
is_write (Load fault) = false
is_write (Schedule fault) = false
is_write (Entry place why) = false
is_write (Threads fault) = false
is_write (Exhibit fault) = false
is_write TooLong = false
is_write Read = false
is_write Write = true
is_write NoMemory = false

-- something was refused, and the fault passes the test
abbrev pub fails_by : {A : Type 0} → (Fault → Bool) → Result A Fault → Bool
fails_by test (Ok a) = false
fails_by test (Err fault) = test fault

-- the bytes, unless they are more than an input may have
abbrev pub unless_long : List ℕ → Result (List ℕ) Fault
unless_long bytes = if nat_lt INPUT_LIMIT (length bytes) then Err TooLong else Ok bytes
