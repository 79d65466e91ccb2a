use Rattle.std.specs.Prelude.{◌≡◌, ◌-◌, ◌≤◌}
use Rattle.rv_walk.proofs.again.Again.go_to.Given as goal

abbrev pub invariant-loop-self : goal.invariant-loop-self
invariant-loop-self g l = record {
  walk : l.self ≡ record l.initial.self { place = l.self.place };
  ahead : l.self.place ≤ l.place;
}

abbrev pub decreases-loop-self : goal.decreases-loop-self
decreases-loop-self g l = l.place - l.self.place
