-- What a stuck end says of its machine, what its acts say of their rounds, and that a key is of one list of acts.
use Rattle.std.specs.Prelude.{◌≡◌, ⊤, ℕ, Bool, true, false, IsTrue, ◌↔◌, ◌&&◌, ◌==◌, Option, Some, None, List, [], ◌∷◌, length}
use Rattle.std.specs.List.{AllByRecursion, list_any}
use Rattle.rv_hart.specs.State.{State}
use Rattle.rv_waits.specs.Stuck.{IsStuck}
use Rattle.rv_waits.specs.Touches.{Loads}
use Rattle.rv_waits.specs.declared.touched.Range.{Range}
use Rattle.rv_stuck.specs.Acts.{Conduct, is_before, polls, read_by, reads}
use Rattle.rv_stuck.specs.Key.{key}
use Rattle.rv_stuck.specs.StuckEnd.{AreStepsOf, IsStuckEnd}
use Rattle.rv_stuck.specs.declared.stuck.RoundStep.{RoundStep}
use Rattle.rv_stuck.specs.declared.stuck.StuckEnd.{StuckEnd}

-- a machine that has a stuck end is stuck
abbrev pub StuckEndsAreStuck : Type 0
StuckEndsAreStuck = (s : State) (end : StuckEnd) → IsStuckEnd s end → IsStuck s

-- a hart polls by the steps that it makes exactly where they load data
abbrev pub PollsWhereItLoads : Type 0
PollsWhereItLoads = (s : State) (h : ℕ) (steps : List RoundStep) → AreStepsOf h steps s → IsTrue (polls steps) ↔ Loads h (length steps) s

-- each range is before each that follows
abbrev pub Ascend : List Range → Type 0
Ascend [] = ⊤
Ascend (range ∷ ranges) = AllByRecursion (λ other. is_before range other ≡ true) ranges × Ascend ranges

abbrev pub is_same : Range → Range → Bool
is_same range other = range.first == other.first && range.size == other.size

abbrev pub is_that : Range → Option Range → Bool
is_that range None = false
is_that range (Some other) = is_same range other

-- what the steps read ascends, so that no range is there twice, and a range is there exactly where a step reads its bytes
pub record ReadsAreEachOnce : Type 0 where
  pub ascend : (steps : List RoundStep) → Ascend (reads steps)
  pub those : (range : Range) (steps : List RoundStep) → list_any (is_same range) (reads steps) ≡ list_any (λ (step : RoundStep). is_that range (read_by step.access)) steps

-- harts that do otherwise have another key
abbrev pub KeysAreUnique : Type 0
KeysAreUnique = (one other : List Conduct) → key one ≡ key other → one ≡ other
