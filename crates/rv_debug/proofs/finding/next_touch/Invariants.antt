-- the machine stands at the place, and no entry so far touches the byte
use Rattle.std.proofs.Common.{ℕ, ◌≤◌, ◌<◌}
use Rattle.rv_debug.specs.Answers.{TouchesAt}
use Rattle.rv_debug.specs.Placed.{placed}
use Rattle.rv_debug.specs.internal.Session.{StandsAt}
use Rattle.rv_debug.proofs.finding.next_touch.Given as goal

abbrev pub invariant-loop-place : goal.invariant-loop-place
invariant-loop-place l = record {
  here : StandsAt l.schedule l.place l.machine;
  none : (k : ℕ) → l.from ≤ k → k < l.place → TouchesAt (placed l.schedule.image l.schedule.plan l.schedule.entries l.from) l.address k → ⊥;
}
