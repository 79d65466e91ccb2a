use Rattle.std.proofs.Common.{◌≡◌, ℕ, List, leb, sym, subst, rules}
use Rattle.std.specs.List.Sorted.{IsNonDecreasing, IsPermutation}
use Rattle.std.proofs.lemmas.List.Sorted.{IsPartitionPoint-from_clause, IsPartitionedBy-leb}
use Rattle.rv_prune.specs.internal.Bounds.{ends}
use Rattle.rv_prune.proofs.Counted.{counted_in}
use Rattle.rv_prune.proofs.named_bytes.NamedBytes.ended.Goals as goal

pub returns : goal.returns
returns c =
    let sorted = c.deref.result.now in
    let same : sorted ≡ c.self.inside.ends.items = c.deref.ensures.value in
    let rise = subst (λ (xs : List ℕ). IsNonDecreasing xs) (sym same) c.self.invariant.ends_rise in
    let point = IsPartitionPoint-from_clause (λ (place : ℕ). leb place c.args.place) sorted c.partition_point.result c.partition_point.ensures.partitioned (IsPartitionedBy-leb (λ (place : ℕ). place) sorted c.args.place rise) (λ a r q k. search rules) in
    let of_listed = subst (λ (listed : List (ℕ × ℕ)). IsPermutation (ends listed) c.self.inside.ends.items) c.self.view_is c.self.invariant.ends_are in
    let all = subst (λ (xs : List ℕ). IsPermutation (ends c.args.self.now) xs) (sym same) of_listed in
    counted_in (λ place. leb place c.args.place) (ends c.args.self.now) sorted c.partition_point.result all c.partition_point.ensures.bound point
