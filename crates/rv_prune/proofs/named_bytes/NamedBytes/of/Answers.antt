use Rattle.std.proofs.Common.{ℕ, List, ◌∙◌, ap, subst}
use Rattle.std.specs.List.Sorted.{IsPermutation}
use Rattle.std.proofs.lemmas.List.Sorted.{IsNonDecreasingBy-from_sort}
use Rattle.rv_prune.specs.internal.Bounds.{starts, ends}
use Rattle.rv_prune.proofs.named_bytes.NamedBytes.of.Goals as goal

pub invariant_of-result : goal.invariant_of-result
invariant_of-result c =
    let begins = c.sort_unstable.new.self.items in
    let stops = c.sort_unstable-2.new.self.items in
    record {
      starts_rise = IsNonDecreasingBy-from_sort (λ (n : ℕ). n) begins c.sort_unstable.ensures.sorted;
      ends_rise = IsNonDecreasingBy-from_sort (λ (n : ℕ). n) stops c.sort_unstable-2.ensures.sorted;
      starts_are = subst (λ (xs : List ℕ). IsPermutation xs begins) (c.in_ok-starts.ensures {u = tt} ∙ ap starts c.deref.ensures.value) c.sort_unstable.ensures.permutation;
      ends_are = subst (λ (xs : List ℕ). IsPermutation xs stops) (c.in_ok-ends.ensures {u = tt} ∙ ap ends c.deref-2.ensures.value) c.sort_unstable-2.ensures.permutation;
    }
