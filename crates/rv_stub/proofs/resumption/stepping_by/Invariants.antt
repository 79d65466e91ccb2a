-- the harts so far
use Rattle.std.proofs.Common.{◌≡◌, ℕ, ◌<◌, false, get_or, length}
use Rattle.rv_stub.specs.Resumption.{steps_by}
use Rattle.rv_stub.proofs.resumption.stepping_by.Given as goal

abbrev pub invariant-loop-hart : goal.invariant-loop-hart
invariant-loop-hart l = record {
  size : length l.harts ≡ 16;
  so_far : (k : ℕ) → k < l.hart → get_or l.harts k false ≡ steps_by l.actions k;
}
