-- Why `gdb` ends before its talk does, and which file is at fault.
use Rattle.std.specs.Prelude.{ℕ, Bool, true, false, Option, None, IsOkAnd, List, Result, Ok, Err}
use Rattle.rv_debug.specs.Placed.{Placed}
use Rattle.rv_debug.specs.declared.fault.TalkFault.{TalkFault}
use Rattle.rv_engines.specs.Debug.{IsTalkOver}
use Rattle.rv_faults.specs.Fault.{fault_of_talk}
use Rattle.rv_engines.specs.Replay.{IsReplayRefusal, run_of}
use Rattle.rv_faults.specs.Sentences as sentences
use Rattle.rv_faults.specs.declared.fault.Fault.{Fault}
use Rattle.rv_faults.specs.declared.command.CommandFault.{CommandFault}
use Rattle.rv_faults.specs.declared.command.CommandFault.TheVariants.{Plain}
use Rattle.rv_faults.specs.declared.sentences.Paths.{Paths}
use Rattle.rv_stub.specs.declared.fault.GdbFault.{GdbFault}
use Rattle.rv_stub.specs.declared.fault.GdbFault.TheVariants.{Files, Talk}

-- The files are refused and nothing is written; or the talk over the legal run that they say is stopped.
abbrev pub IsGdbRefusal : List ℕ → List ℕ → Type 0 → (Placed → TalkFault → Type 0) → GdbFault → Type 0
IsGdbRefusal image schedule Nothing Stops (Files fault) = IsReplayRefusal image schedule fault × Nothing
IsGdbRefusal image schedule Nothing Stops (Talk fault) = IsOkAnd (run_of image schedule) (λ run. IsTalkOver run (λ start. Stops start fault))

-- the fault is one of the files
abbrev pub is_of_files : GdbFault → Bool
is_of_files (Files fault) = true
is_of_files (Talk fault) = false

-- something was refused, and the fault passes the test of those of its kind
abbrev pub fails_by : {A : Type 0} → (Fault → Bool) → (TalkFault → Bool) → Result A GdbFault → Bool
fails_by of_files of_talk (Ok a) = false
fails_by of_files of_talk (Err (Files fault)) = of_files fault
fails_by of_files of_talk (Err (Talk fault)) = of_talk fault

-- the same as any command tells it
abbrev pub plain : GdbFault → Fault
plain (Files fault) = fault
plain (Talk fault) = fault_of_talk fault

abbrev pub told : GdbFault → CommandFault
told fault = Plain (plain fault)

-- the file that is at fault: none is, of what GDB sends
abbrev pub at_fault : Paths → GdbFault → Option (List ℕ)
at_fault paths (Files fault) = sentences.at_fault paths (Plain fault)
at_fault paths (Talk fault) = None
