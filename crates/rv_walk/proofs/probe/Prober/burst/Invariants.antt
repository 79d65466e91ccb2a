use Rattle.std.specs.Prelude.{◌≡◌, ◌+◌, ◌≤◌, length}
use Rattle.rv_walk.specs.internal.Probing.{IsFurther, IsReady}
use Rattle.rv_walk.proofs.probe.Prober.burst.Given as goal

abbrev pub invariant-loop : goal.invariant-loop
invariant-loop g l = record {
  further : IsFurther l.initial.self l.self;
  ready : IsReady l.self l.h;
  words : l.words ≡ record l.initial.words { taken = l.words.taken };
  few : l.words.taken + length l.initial.self.core.entries ≤ l.initial.words.taken + length l.self.core.entries;
  drawn : l.words.taken ≤ l.initial.words.taken + l.counter;
  grown : l.counter + length l.initial.self.core.entries ≤ length l.self.core.entries;
}
