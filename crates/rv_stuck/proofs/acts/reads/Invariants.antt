use Rattle.std.proofs.Common.{◌≡◌, drop}
use Rattle.std.specs.List.{fold}
use Rattle.rv_stuck.specs.Acts.{reads, with_step}
use Rattle.rv_stuck.proofs.acts.reads.Given as goal

abbrev pub invariant-loop-k : goal.invariant-loop-k
invariant-loop-k l = fold with_step l.ranges.items (drop l.k l.steps) ≡ reads l.steps
