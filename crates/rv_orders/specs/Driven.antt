-- How words drive a run without pauses: a word picks whose turn is next, and the next word how many turns it has.
use Rattle.std.specs.Prelude.{◌≡◌, ℕ, ◌+◌, ◌*◌, ◌%◌, ◌≤◌, Some, List, length, replicate, slice_get, take}
use Rattle.std.specs.List.{flat_map}
use Rattle.rv_hart.specs.Run.{run}
use Rattle.rv_hart.specs.State.{State}
use Rattle.rv_orders.specs.declared.runner.TheConstants.{MOST_TURNS}
use Rattle.rv_waits.specs.Turn.{IsNextFrom}

-- turns of one hart, one after another
pub record Burst : Type 0 where
  pub hart : ℕ
  pub turns : ℕ

-- the harts that step by bursts, in their order
abbrev pub turns_of : List Burst → List ℕ
turns_of bursts = flat_map (λ (burst : Burst). replicate burst.turns burst.hart) bursts

-- Two words drive a burst from a state: its hart is the next from the first word on, and it has as many turns as the second says, or
-- fewer, where the hart ends or waits, or all steps are made.
pub record IsDrivenBy (s : State) (word other : ℕ) (burst : Burst) : Type 0 where
  pub next : IsNextFrom s word burst.hart
  pub some : 1 ≤ burst.turns
  pub few : burst.turns ≤ 1 + other % MOST_TURNS

-- From a state on words drive these harts, two words a burst.
pub record AreDriven (words : ℕ → ℕ) (s : State) (harts : List ℕ) : Type 0 where
  pub bursts : List Burst
  pub harts_are : harts ≡ turns_of bursts
  pub each : (k : ℕ) (burst : Burst) (t : State) → slice_get bursts k ≡ Some burst → run s (turns_of (take k bursts)) ≡ Some t → IsDrivenBy t (words (2 * k)) (words (2 * k + 1)) burst
