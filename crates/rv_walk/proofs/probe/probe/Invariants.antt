use Rattle.std.specs.Prelude.{◌≡◌, ◌+◌, ◌*◌, ◌-◌, ◌≤◌, length}
use Rattle.rv_collide.specs.Plan.{most_entries}
use Rattle.rv_walk.specs.internal.Probing.{IsFurther}
use Rattle.rv_walk.proofs.probe.probe.Given as goal

abbrev pub invariant-rounds : goal.invariant-rounds
invariant-rounds g l = record {
  further : IsFurther l.initial.probe l.probe;
  words : l.words ≡ record l.initial.words { taken = l.words.taken };
  taken : l.words.taken ≤ l.initial.words.taken + 4 * length l.probe.core.entries;
}

abbrev pub decreases-rounds : goal.decreases-rounds
decreases-rounds g l = most_entries l.probe.core.plan - length l.probe.core.entries
