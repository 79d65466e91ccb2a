use Rattle.std.proofs.Common.{◌≡◌, ℕ, List, ltb, sym, subst, rules}
use Rattle.std.specs.List.Sorted.{IsNonDecreasing, IsPermutation}
use Rattle.std.proofs.lemmas.List.Sorted.{IsPartitionPoint-from_clause, IsPartitionedBy-ltb}
use Rattle.rv_prune.specs.internal.Bounds.{starts}
use Rattle.rv_prune.proofs.Counted.{counted_in}
use Rattle.rv_prune.proofs.named_bytes.NamedBytes.begun.Goals as goal

pub returns : goal.returns
returns c =
    let sorted = c.deref.result.now in
    let same : sorted ≡ c.self.inside.starts.items = c.deref.ensures.value in
    let rise = subst (λ (xs : List ℕ). IsNonDecreasing xs) (sym same) c.self.invariant.starts_rise in
    let point = IsPartitionPoint-from_clause (λ (place : ℕ). ltb place c.args.place) sorted c.partition_point.result c.partition_point.ensures.partitioned (IsPartitionedBy-ltb (λ (place : ℕ). place) sorted c.args.place rise) (λ a r q k. search rules) in
    let of_listed = subst (λ (listed : List (ℕ × ℕ)). IsPermutation (starts listed) c.self.inside.starts.items) c.self.view_is c.self.invariant.starts_are in
    let all = subst (λ (xs : List ℕ). IsPermutation (starts c.args.self.now) xs) (sym same) of_listed in
    counted_in (λ place. ltb place c.args.place) (starts c.args.self.now) sorted c.partition_point.result all c.partition_point.ensures.bound point
