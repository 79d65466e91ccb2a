-- The regions of an input and the stacks make a store: none ends past 2 ^ 32, no two meet, and together
-- they are within the limit.
use Rattle.std.proofs.Common.{◌≡◌, ℕ, ◌+◌, ◌*◌, ◌^◌, ◌≤◌, Bool, true, false, ◌||◌, List, [], ◌∷◌, length, None, map, zero, suc, refl, sym, ◌∙◌, nat_lt, add-zero, fold, arith}
use Rattle.std.specs.Prelude.{All}
use Rattle.std.specs.Int.{to_le_bytes, w32}
use Rattle.std.specs.List.{flat_map, list_any, range_with_len}
use Rattle.std.proofs.lemmas.List.{length-append}
use Rattle.std.proofs.lemmas.List.Elements.{All-cons, All-nil}
use Rattle.std.proofs.lemmas.Bool.Decides.{nat_tests}
use Rattle.rv_hart.specs.declared.machine.TheConstants.{MOST_HARTS}
use Rattle.rv_words.specs.declared.input.TheConstants.{MOST_WORDS}
use Rattle.rv_hart.specs.State.{stack, stack_start, stacks, with_stacks}
use Rattle.rv_memory.specs.Extent.{Extent, IsExtent, end_of}
use Rattle.rv_memory.specs.Memory.{fault_of, meets, overlaps}
use Rattle.rv_words.specs.WordsGuest.{data_region, regions, text_region}

abbrev stacks_from : ℕ → ℕ → List Extent
stacks_from first count = map stack (range_with_len first count)

abbrev ends_late : Extent → Bool
ends_late e = nat_lt (2 ^ 32) (end_of e)

or_false : (a b : Bool) → a ≡ false → b ≡ false → (a || b) ≡ false
or_false true b p q = p
or_false false b p q = q

stacks_end : (first count : ℕ) → first + count ≤ MOST_HARTS → list_any ends_late (stacks_from first count) ≡ false
stacks_end first zero h = refl
stacks_end first (suc count) h =
    let here : ends_late (stack first) ≡ false = grind (arith, nat_tests) in
    or_false _ _ here (stacks_end (first + 1) count (omega arith))

-- what ends before the stacks meets none of them
meets_later : (e : Extent) (first count : ℕ) → end_of e ≤ stack_start first → list_any (meets e) (stacks_from first count) ≡ false
meets_later e first zero h = refl
meets_later e first (suc count) h =
    let here : meets e (stack first) ≡ false = grind (arith, nat_tests) in
    or_false _ _ here (meets_later e (first + 1) count (omega arith))

stacks_apart : (first count : ℕ) → overlaps (stacks_from first count) ≡ false
stacks_apart first zero = refl
stacks_apart first (suc count) =
    or_false _ _ (meets_later (stack first) (first + 1) count (omega arith)) (stacks_apart (first + 1) count)

stacks_sum : (before first count : ℕ) → fold (λ sum e. sum + e.len) before (stacks_from first count) ≡ before + count * 65536
stacks_sum before first zero = sym (add-zero before)
stacks_sum before first (suc count) =
    let more : (before + 65536) + count * 65536 ≡ before + suc count * 65536 = omega arith in
    stacks_sum (before + 65536) (first + 1) count ∙ more

no_fault : (es : List Extent) → list_any ends_late es ≡ false → overlaps es ≡ false → nat_lt 17825792 (fold (λ sum e. sum + e.len) 0 es) ≡ false → fault_of es ≡ None
no_fault es p q r = rw (p, q, r) refl

pub input_fits : (words : List ℕ) (count : ℕ) → length words ≤ MOST_WORDS → count ≤ MOST_HARTS → fault_of (with_stacks (regions words) count) ≡ None
input_fits [] count few some =
    no_fault (data_region ∷ stacks count) (or_false _ _ refl (stacks_end 0 count (omega arith)))
    (or_false _ _ (meets_later data_region 0 count (omega arith)) (stacks_apart 0 count))
    (let sum = stacks_sum 4096 0 count in rw sum (grind (arith, nat_tests)))
input_fits (word ∷ words) count few some =
    let text = text_region (word ∷ words) in
    let late : ends_late text ≡ false = grind (arith, nat_tests) in
    let apart : meets text data_region ≡ false = grind (arith, nat_tests) in
    no_fault (text ∷ data_region ∷ stacks count) (or_false _ _ late (or_false _ _ refl (stacks_end 0 count (omega arith))))
    (or_false _ _ (or_false _ _ apart (meets_later text 0 count (omega arith))) (or_false _ _ (meets_later data_region 0 count (omega arith)) (stacks_apart 0 count)))
    (let sum = stacks_sum ((0 + 4 * length (word ∷ words)) + 4096) 0 count in rw sum (grind (arith, nat_tests)))

bytes_count : (words : List ℕ) → length (flat_map (to_le_bytes w32) words) ≡ 4 * length words
bytes_count [] = refl
bytes_count (word ∷ words) =
    let rest = bytes_count words in
    let both = length-append (to_le_bytes w32 word) (flat_map (to_le_bytes w32) words) in
    omega arith

data_is_extent : IsExtent data_region
data_is_extent = record { some = omega arith; within = omega arith }

pub regions_are_extents : (words : List ℕ) → All IsExtent (regions words)
regions_are_extents [] = All-cons IsExtent data_region [] data_is_extent (All-nil IsExtent)
regions_are_extents (word ∷ words) =
    let count = bytes_count (word ∷ words) in
    let text : IsExtent (text_region (word ∷ words)) = record { some = omega arith; within = omega arith } in
    All-cons IsExtent (text_region (word ∷ words)) (data_region ∷ []) text (All-cons IsExtent data_region [] data_is_extent (All-nil IsExtent))
