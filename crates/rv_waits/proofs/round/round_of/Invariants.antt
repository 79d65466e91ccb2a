use Rattle.std.specs.Prelude.{◌≡◌, length}
use Rattle.rv_waits.specs.Tried.{IsTried}
use Rattle.rv_waits.proofs.round.round_of.Given as goal

abbrev pub invariant-loop-steps : goal.invariant-loop-steps
invariant-loop-steps g l = IsTried l.h l.steps l.initial.copy.state l.copy.state l.seen × (length l.copy.state.harts ≡ length l.initial.copy.state.harts)
