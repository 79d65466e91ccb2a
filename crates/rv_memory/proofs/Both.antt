use Rattle.std.proofs.Common.{◌≡◌, ◌+◌, ◌^◌, Bool, true, false, List, [], ◌∷◌, ◌++◌, Some, None, refl}
use Rattle.std.specs.Prelude.{◌||◌, nat_lt, sum_by, if◌then◌else◌}
use Rattle.std.specs.List.{list_any}
use Rattle.std.proofs.lemmas.List.Folds.{list_any-append}
use Rattle.std.proofs.lemmas.List.Sums.{sum_by-append}
use Rattle.rv_memory.specs.Extent.{Extent, end_of}
use Rattle.rv_memory.specs.Memory.{meets, overlaps, fault_of}
use Rattle.rv_memory.specs.declared.store.MemFault.TheVariants.{Overlap, TooLarge, PastEnd}
use Rattle.rv_memory.specs.declared.store.TheConstants.{LIMIT}

regroup : (a b c d e : Bool) → (a || b) || ((c || d) || e) ≡ ((a || c) || d) || (b || e)
regroup true b c d e = refl
regroup false true true d e = refl
regroup false true false true e = refl
regroup false true false false e = refl
regroup false false true d e = refl
regroup false false false true e = refl
regroup false false false false e = refl

or_false : (b : Bool) → b ≡ b || false
or_false true = refl
or_false false = refl

-- two lists overlap where one does, or one meets the other
overlaps-append : (xs ys : List Extent) → overlaps (xs ++ ys) ≡ (overlaps xs || overlaps ys) || list_any (λ e. list_any (meets e) ys) xs
overlaps-append [] ys = or_false (overlaps ys)
overlaps-append (e ∷ xs) ys =
    rw (list_any-append (meets e) xs ys, overlaps-append xs ys) (regroup (list_any (meets e) xs) (list_any (meets e) ys) (overlaps xs) (overlaps ys) (list_any (λ a. list_any (meets a) ys) xs))

pub fault_of_both_lists : (xs ys : List Extent) → fault_of (xs ++ ys) ≡
    (if list_any (λ e. nat_lt (2 ^ 32) (end_of e)) xs || list_any (λ e. nat_lt (2 ^ 32) (end_of e)) ys then Some PastEnd
    else (if (overlaps xs || overlaps ys) || list_any (λ e. list_any (meets e) ys) xs then Some Overlap
    else (if nat_lt LIMIT (sum_by (λ e. e.len) xs + sum_by (λ e. e.len) ys) then Some TooLarge else None)))
fault_of_both_lists xs ys =
    rw (list_any-append (λ (e : Extent). nat_lt (2 ^ 32) (end_of e)) xs ys, overlaps-append xs ys, sum_by-append (λ (e : Extent). e.len) xs ys)
