use Rattle.std.proofs.Common.{◌≡◌, ℕ, ◌+◌, ◌≤◌, false, List, [], ◌∷◌, ◌++◌, All, take, map, refl, arith}
use Rattle.std.specs.List.{range_with_len}
use Rattle.std.proofs.lemmas.List.Elements.{All-append, All-map}
use Rattle.std.proofs.lemmas.List.FromFn.{take-map-range_with_len, map-range_with_len_more}
use Rattle.rv_hart.specs.declared.machine.TheConstants.{MOST_HARTS}
use Rattle.rv_hart.specs.State.{stack, stacks, with_stacks, first_hart}
use Rattle.rv_hart.specs.internal.Harts.{any_holds}
use Rattle.rv_memory.specs.Extent.{Extent, IsExtent}

-- the first of all stacks
pub some_stacks : (count : ℕ) → count ≤ MOST_HARTS → take count (stacks MOST_HARTS) ≡ stacks count
some_stacks count h = take-map-range_with_len stack 0 MOST_HARTS count h

pub harts_more : (entry count n : ℕ) → map (first_hart entry count) (range_with_len 0 (n + 1)) ≡ map (first_hart entry count) (range_with_len 0 n) ++ first_hart entry count n ∷ []
harts_more entry count n = map-range_with_len_more (first_hart entry count) 0 n n (omega arith)

stack_is_extent : (h : ℕ) → IsExtent (stack h)
stack_is_extent h = record { some = omega arith; within = omega arith }

pub stacks_are_extents : (count : ℕ) → All IsExtent (stacks count)
stacks_are_extents count = All-map IsExtent stack (range_with_len 0 count) (λ _ _ _. stack_is_extent _)

pub all_are_extents : (given : List Extent) (count : ℕ) → All IsExtent given → All IsExtent (with_stacks given count)
all_are_extents given count extents = All-append IsExtent given (stacks count) extents (stacks_are_extents count)

-- no hart begins with a reservation
pub none_first : (entry count : ℕ) (xs : List ℕ) → any_holds (map (first_hart entry count) xs) ≡ false
none_first entry count [] = refl
none_first entry count (x ∷ xs) = none_first entry count xs
