-- The near pairs that are told of a walk.
use Rattle.std.specs.Prelude.{◌≡◌, ℕ, Bool, Some, List, min, max, slice_get}
use Rattle.std.specs.List.{All}
use Rattle.std.specs.List.Sorted.{IsSortedBy}
use Rattle.std.specs.Ordering.{is_lt, nat_cmp, ordering_then}
use Rattle.rv_walk.specs.NearPair.{IsNearPair}
use Rattle.rv_walk.specs.Walked.{Walked}
use Rattle.rv_walk.specs.declared.near_pair.Addresses.{Addresses}
use Rattle.rv_walk.specs.declared.near_pair.NearPair.{NearPair}

-- the addresses of a pair's two instructions, the lesser first
abbrev pub addresses_of : NearPair → Addresses
addresses_of pair = record {
  lesser = min pair.first.access.pc pair.second.access.pc;
  greater = max pair.first.access.pc pair.second.access.pc;
}

-- the place of the first access, and then the addresses
abbrev pub rank_of : NearPair → ℕ × (ℕ × ℕ)
rank_of pair = (pair.first.place, ((addresses_of pair).lesser, (addresses_of pair).greater))

-- in the order of the first numbers that differ
abbrev pub is_before : NearPair → NearPair → Bool
is_before one other =
    let a = rank_of one in
    let b = rank_of other in
    is_lt (ordering_then (nat_cmp a.0 b.0) (ordering_then (nat_cmp a.1.0 b.1.0) (nat_cmp a.1.1 b.1.1)))

-- Near pairs of the walk, in that order, and no two of them with the same two addresses.
pub record AreTold (walk : Walked) (pairs : List NearPair) : Type 0 where
  pub are_near : All (IsNearPair walk) pairs
  pub ascend : IsSortedBy is_before pairs
  pub once : (i j : ℕ) (one other : NearPair) → slice_get pairs i ≡ Some one → slice_get pairs j ≡ Some other → addresses_of one ≡ addresses_of other → i ≡ j
