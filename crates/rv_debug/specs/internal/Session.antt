-- What a session keeps: a legal schedule, a machine at its place, machines at some places before, and the endings of its pauses.
use Rattle.std.specs.Prelude.{◌≡◌, ℕ, ◌+◌, ◌*◌, ◌/◌, ◌≤◌, Some, List, [], ◌∷◌, ◌++◌, length, slice_get}
use Rattle.rv_collide.specs.StateAt.{state_at}
use Rattle.rv_collide.specs.Stored.{Stored, setting_of}
use Rattle.rv_collide.specs.Verdict.{endings}
use Rattle.rv_collide.specs.declared.ending.Ending.{Ending}
use Rattle.rv_debug.specs.declared.checkpoints.TheConstants.{CHECKPOINT_ENTRIES}
use Rattle.rv_hart.specs.State.{Guest}

-- the machine's state is the one at the place of the schedule
abbrev pub HasStateAt : Stored → ℕ → Guest → Type 0
HasStateAt schedule place machine = state_at (setting_of schedule).start schedule.entries place ≡ Some machine.state

-- the machine is at the place of the schedule, and may print as many bytes as there may be steps
pub record StandsAt (schedule : Stored) (place : ℕ) (machine : Guest) : Type 0 where
  pub state : HasStateAt schedule place machine
  pub limit : machine.limit ≡ schedule.plan.steps

-- there are so many checkpoints, and checkpoint c holds the state after the first `CHECKPOINT_ENTRIES * c` entries
pub record HoldStates (schedule : Stored) (count : ℕ) (checkpoints : List Guest) : Type 0 where
  pub count_is : length checkpoints ≡ count
  pub each : (c : ℕ) (checkpoint : Guest) → slice_get checkpoints c ≡ Some checkpoint → HasStateAt schedule (CHECKPOINT_ENTRIES * c) checkpoint

-- one for each multiple of `CHECKPOINT_ENTRIES` up to the number of entries
abbrev pub AreCheckpoints : Stored → List Guest → Type 0
AreCheckpoints schedule checkpoints = HoldStates schedule (length schedule.entries / CHECKPOINT_ENTRIES + 1) checkpoints

-- one checkpoint more, of the state at the end of the core's schedule
pub record HasOneMore (core : Stored) (old new : List Guest) : Type 0 where
  pub checkpoint : Guest
  pub added : new ≡ old ++ checkpoint ∷ []
  pub state : HasStateAt core (length core.entries) checkpoint

pub record IsSession (schedule : Stored) (place : ℕ) (machine : Guest) (checkpoints : List Guest) (ended : List Ending) : Type 0 where
  pub within : place ≤ length schedule.entries
  pub here : StandsAt schedule place machine
  pub checkpoints_are : AreCheckpoints schedule checkpoints
  pub endings_are : ended ≡ endings (setting_of schedule).start schedule.entries
