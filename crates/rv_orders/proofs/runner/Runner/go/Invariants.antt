use Rattle.std.proofs.Common.{◌≡◌, ◌+◌, ◌-◌, ◌*◌, ◌≤◌, length}
use Rattle.rv_orders.specs.internal.Gone.{IsDrivenOn}
use Rattle.rv_orders.proofs.runner.Runner.go.Given as goal

abbrev pub invariant-bursts : goal.invariant-bursts
invariant-bursts g l = record {
  further : IsDrivenOn l.initial.self l.self l.number l.words.taken;
  words : l.words ≡ record { seed = 0; stream = l.number; taken = l.words.taken };
  few : l.words.taken + 2 * length l.initial.self.harts ≤ 2 * length l.self.harts;
}

abbrev pub decreases-bursts : goal.decreases-bursts
decreases-bursts g l = l.self.most - length l.self.harts
