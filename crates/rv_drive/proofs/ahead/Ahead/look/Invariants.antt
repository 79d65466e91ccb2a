use Rattle.std.proofs.Common.{◌≡◌}
use Rattle.std.specs.Prelude.{nat_lt}
use Rattle.rv_drive.specs.internal.Kept.{IsNoted}
use Rattle.rv_drive.proofs.ahead.Ahead.look.Given as goal

abbrev pub invariant-loop-h : goal.invariant-loop-h
invariant-loop-h l = record {
  noted : IsNoted l.self l.h;
  left : l.are_left ≡ nat_lt l.self.made l.self.collider.plan.steps;
  collider : l.self.collider ≡ l.initial.self.collider;
}
