use Rattle.std.proofs.Common.{◌≡◌, ℕ, ◌<◌, Some}
use Rattle.std.specs.Prelude.{slice_get}
use Rattle.rv_orders.specs.Trial.{EndsDiffer}
use Rattle.rv_orders.specs.declared.end.HartEnd.{HartEnd}
use Rattle.rv_orders.proofs.difference.some_ends_differ.Given as goal

abbrev pub invariant-loop-h : goal.invariant-loop-h
invariant-loop-h l =
    (k : ℕ) (one other : HartEnd) → k < l.h → slice_get l.ones k ≡ Some one → slice_get l.others k ≡ Some other → ¬ EndsDiffer one other
