-- What `debug` does with its three inputs: an image, a schedule, and the lines of commands.
use Rattle.std.specs.Prelude.{ℕ, ◌⊎◌, Bool, true, false, IsOkAnd, List}
use Rattle.rv_collide.specs.Legal.{IsLegal}
use Rattle.rv_collide.specs.Stored.{Stored, setting_of}
use Rattle.rv_debug.specs.Placed.{Placed, placed}
use Rattle.rv_debug.specs.declared.fault.TalkFault.{TalkFault}
use Rattle.rv_debug.specs.declared.fault.TalkFault.TheVariants as talk
use Rattle.rv_engines.specs.Replay.{IsReplayRefusal, run_of}
use Rattle.rv_faults.specs.declared.fault.Fault.{Fault}
use Rattle.rv_faults.specs.declared.fault.Fault.TheVariants.{TooLong, Read, Write}

-- the run at its first place
abbrev pub start_of : Stored → Placed
start_of run = placed run.image run.plan run.entries 0

-- the fault may be one of the talk
abbrev pub stops_talk : Fault → Bool
stops_talk TooLong = true
stops_talk Read = true
stops_talk Write = true
stops_talk _ = false

-- the fault is one of the talk, which stops so
abbrev pub IsOfTalk : (TalkFault → Type 0) → Fault → Type 0
IsOfTalk Stops TooLong = Stops talk.TooLong
IsOfTalk Stops Read = Stops talk.Read
IsOfTalk Stops Write = Stops talk.Write
IsOfTalk Stops _ = ⊥

-- The entries of a run are legal, and this holds at its first place.
pub record IsTalkOver (run : Stored) (Talks : Placed → Type 0) : Type 0 where
  pub legal : IsLegal (setting_of run) run.entries
  pub talks : Talks (start_of run)

-- The files are refused and nothing is written; or the talk over the legal run that they say is stopped.
abbrev pub IsDebugRefusal : List ℕ → List ℕ → Type 0 → (Placed → TalkFault → Type 0) → Fault → Type 0
IsDebugRefusal image schedule Nothing Stops fault =
    (IsReplayRefusal image schedule fault × Nothing)
    ⊎ IsOkAnd (run_of image schedule) (λ run. IsTalkOver run (λ start. IsOfTalk (Stops start) fault))
