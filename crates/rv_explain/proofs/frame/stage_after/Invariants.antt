-- the stage behind the words so far
use Rattle.std.proofs.Common.{◌≡◌}
use Rattle.rv_explain.specs.Frame.{stage_after}
use Rattle.rv_explain.proofs.frame.stage_after.Given as goal

abbrev pub invariant-loop-k : goal.invariant-loop-k
invariant-loop-k l = l.stage ≡ stage_after l.image l.start l.k
