-- The segments of an image and the stacks of a plan's harts make a machine.
use Rattle.std.proofs.Common.{◌≡◌, ℕ, zero, suc, ◌+◌, ◌*◌, ◌^◌, ◌≤◌, ◌<◌, Bool, true, false, cond, List, [], ◌∷◌, ◌++◌, All, map, Some, None, refl, ap, ◌∙◌, arith}
use Rattle.std.specs.Prelude.{◌&&◌, ◌||◌, nat_lt}
use Rattle.std.specs.List.{list_any, range_with_len, sum_by}
use Rattle.std.proofs.lemmas.Bool.Decides.{nat_tests}
use Rattle.std.proofs.lemmas.List.Folds.{list_any-append}
use Rattle.std.proofs.lemmas.List.Sums.{sum_by-append, sum_by-cons}
use Rattle.rv_elf.specs.Contents.{AreSegments, IsSegment}
use Rattle.rv_elf.specs.Contents as image
use Rattle.rv_hart.specs.State.{stack, stack_start, stacks, with_stacks}
use Rattle.rv_memory.specs.Extent.{Extent, end_of}
use Rattle.rv_memory.specs.Memory.{fault_of, meets, overlaps}
use Rattle.rv_memory.specs.declared.store.MemFault.TheVariants.{Overlap, PastEnd, TooLarge}
use Rattle.rv_memory.specs.declared.store.TheConstants.{LIMIT}

or_parts : (b c : Bool) → (b || c) ≡ false → (b ≡ false) × (c ≡ false)
or_parts false c h = (refl, h)
or_parts true c h = cc

or_none : (b c : Bool) → b ≡ false → c ≡ false → (b || c) ≡ false
or_none false c h g = g
or_none true c h g = cc

not_past : (n m : ℕ) → n ≤ m → nat_lt m n ≡ false
not_past n m le = grind (arith, nat_tests)

-- ---- none passes the last address

abbrev is_past : Extent → Bool
is_past e = nat_lt (2 ^ 32) (end_of e)

segments_end : (es : List Extent) → All IsSegment es → list_any is_past es ≡ false
segments_end [] all = refl
segments_end (e ∷ es) all =
    let one : IsSegment e = all 0 e (omega arith) in
    let rest : All IsSegment es = λ k d lt. all (suc k) d (omega arith) in
    or_none (is_past e) (list_any is_past es) (not_past (end_of e) (2 ^ 32) one.ends) (segments_end es rest)

stacks_end : (a n : ℕ) → a + n ≤ 16 → list_any is_past (map stack (range_with_len a n)) ≡ false
stacks_end a zero le = refl
stacks_end a (suc n) le =
    or_none (is_past (stack a)) (list_any is_past (map stack (range_with_len (a + 1) n))) (not_past (end_of (stack a)) (2 ^ 32) (omega arith)) (stacks_end (a + 1) n (omega arith))

-- ---- none meets another

and_first : (b c : Bool) → b ≡ false → (b && c) ≡ false
and_first false c h = refl
and_first true c h = cc

and_second : (b c : Bool) → c ≡ false → (b && c) ≡ false
and_second false c h = refl
and_second true c h = h

not_below : (a b : ℕ) → nat_lt a b ≡ false → b ≤ a
not_below a b h = grind (arith, nat_tests)

stays_apart : (s e low high low' high' : ℕ) → low ≤ low' → high' ≤ high → (nat_lt low e && nat_lt s high) ≡ false → (nat_lt s high' && nat_lt low' e) ≡ false
stays_apart s e low high low' high' below above apart =
    elim (nat_lt low e) as (λ b. nat_lt low e ≡ b → (b && nat_lt s high) ≡ false → (nat_lt s high' && nat_lt low' e) ≡ false) [
      | true ↦ λ is h. let le = not_below s high h in and_first (nat_lt s high') (nat_lt low' e) (not_past high' s (omega arith))
      | false ↦ λ is h. let le = not_below low e is in and_second (nat_lt s high') (nat_lt low' e) (not_past e low' (omega arith))
    ] refl apart

off_stacks : (x : Extent) (a n : ℕ) → a + n ≤ 16 → meets image.stacks x ≡ false → list_any (meets x) (map stack (range_with_len a n)) ≡ false
off_stacks x a zero le apart = refl
off_stacks x a (suc n) le apart =
    or_none (meets x (stack a)) (list_any (meets x) (map stack (range_with_len (a + 1) n)))
    (stays_apart x.start (end_of x) 0xc000_0000 (0xc000_0000 + 0x10_0000) (stack_start a) (end_of (stack a)) (omega arith) (omega arith) apart)
    (off_stacks x (a + 1) n (omega arith) apart)

later_apart : (a b n : ℕ) → a < b → list_any (meets (stack a)) (map stack (range_with_len b n)) ≡ false
later_apart a b zero lt = refl
later_apart a b (suc n) lt =
    or_none (meets (stack a) (stack b)) (list_any (meets (stack a)) (map stack (range_with_len (b + 1) n)))
    (and_second (nat_lt (stack_start a) (end_of (stack b))) (nat_lt (stack_start b) (end_of (stack a))) (not_past (end_of (stack a)) (stack_start b) (omega arith)))
    (later_apart a (b + 1) n (omega arith))

stacks_apart : (a n : ℕ) → overlaps (map stack (range_with_len a n)) ≡ false
stacks_apart a zero = refl
stacks_apart a (suc n) =
    or_none (list_any (meets (stack a)) (map stack (range_with_len (a + 1) n))) (overlaps (map stack (range_with_len (a + 1) n))) (later_apart a (a + 1) n (omega arith)) (stacks_apart (a + 1) n)

all_apart : (n : ℕ) (es : List Extent) → n ≤ 16 → list_any (meets image.stacks) es ≡ false → overlaps es ≡ false → overlaps (es ++ stacks n) ≡ false
all_apart n [] le off apart = stacks_apart 0 n
all_apart n (e ∷ es) le off apart =
    let p = or_parts (meets image.stacks e) (list_any (meets image.stacks) es) off in
    let q = or_parts (list_any (meets e) es) (overlaps es) apart in
    or_none (list_any (meets e) (es ++ stacks n)) (overlaps (es ++ stacks n))
    (list_any-append (meets e) es (stacks n) ∙ or_none (list_any (meets e) es) (list_any (meets e) (stacks n)) q.0 (off_stacks e 0 n (omega arith) p.0))
    (all_apart n es le p.1 q.1)

-- ---- they are not too large together

one_stack : (n : ℕ) → 0x1_0000 + n * 0x1_0000 ≡ suc n * 0x1_0000
one_stack n = omega arith

stacks_size : (a n : ℕ) → sum_by (λ (e : Extent). e.len) (map stack (range_with_len a n)) ≡ n * 0x1_0000
stacks_size a zero = refl
stacks_size a (suc n) =
    sum_by-cons (λ (e : Extent). e.len) (stack a) (map stack (range_with_len (a + 1) n))
    ∙ ap (λ k. 0x1_0000 + k) (stacks_size (a + 1) n)
    ∙ one_stack n

no_fault : (past over large : Bool) → past ≡ false → over ≡ false → large ≡ false → cond past (Some PastEnd) (cond over (Some Overlap) (cond large (Some TooLarge) None)) ≡ None
no_fault past over large a b c = rw (a, b, c) refl

pub fits : (entry : ℕ) (es : List Extent) (n : ℕ) → AreSegments entry es → n ≤ 16 → fault_of (with_stacks es n) ≡ None
fits entry es n are le =
    let p = or_parts (list_any (meets image.stacks) es) (overlaps es) are.apart in
    let small = are.small in
    let size = sum_by-append (λ (e : Extent). e.len) es (stacks n) in
    let more = stacks_size 0 n in
    no_fault (list_any is_past (es ++ stacks n)) (overlaps (es ++ stacks n)) (nat_lt LIMIT (sum_by (λ (e : Extent). e.len) (es ++ stacks n)))
    (list_any-append is_past es (stacks n) ∙ or_none (list_any is_past es) (list_any is_past (stacks n)) (segments_end es are.each) (stacks_end 0 n (omega arith)))
    (all_apart n es le p.0 p.1)
    (not_past (sum_by (λ (e : Extent). e.len) (es ++ stacks n)) LIMIT (omega arith))
