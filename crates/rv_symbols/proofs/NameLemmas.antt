-- The symbol that is chosen is one of those that it was chosen from.
use Rattle.std.proofs.Common.{◌≡◌, ◌∙◌, sym, ap, refl, arith, inl, inr, Bool, true, false, Option, Some, None, List, [], ◌∷◌, ℕ, ◌+◌, ◌<◌, ◌≤◌, suc, length, Contains}
use Rattle.std.specs.Prelude.{◌⊎◌, ◌&&◌, not, filter, find, nat_le, nat_lt, if◌then◌else◌, option_and_then}
use Rattle.std.specs.List.{fold}
use Rattle.std.proofs.lemmas.Bool.{and_parts}
use Rattle.std.proofs.lemmas.Bool.Decides.{nat_tests}
use Rattle.rv_elf.specs.Contents.{Contents, Named}
use Rattle.rv_memory.specs.Extent.{Extent}
use Rattle.rv_symbols.specs.SymbolLaws.{AddressesAreHeld, IsNameOf}
use Rattle.rv_symbols.specs.Symbols.{chosen, first_of, has_size, holder, holds, holds_closer, is_below, is_inside, is_mark, is_nearer, label, nearest, or_else, symbol_of, unless_sized}

some_same : (x y : Named) → Some x ≡ Some y → x ≡ y
some_same x y h = cc

contains-first : (x : Named) (xs : List Named) → Contains (x ∷ xs) x
contains-first x xs = (0, omega arith, refl)

contains-later : (x s : Named) (xs : List Named) → Contains xs s → Contains (x ∷ xs) s
contains-later x s xs (k, below, is) = (suc k, let n = length xs in omega (arith, below), is)

-- one of the list that passes the test
abbrev IsOne : (Named → Bool) → List Named → Named → Type 0
IsOne p xs s = (p s ≡ true) × Contains xs s

one_first : (p : Named → Bool) (x s : Named) (xs : List Named) → p x ≡ true → x ≡ s → IsOne p (x ∷ xs) s
one_first p x s xs passes same = (ap p (sym same) ∙ passes, (0, omega arith, same))

one_later : (p : Named → Bool) (x s : Named) (xs : List Named) → IsOne p xs s → IsOne p (x ∷ xs) s
one_later p x s xs one = (one.0, contains-later x s xs one.1)

-- what was chosen is the one before or the new one
chosen_if : (best x s : Named) (b : Bool) → Some (if b then x else best) ≡ Some s → (Some best ≡ Some s) ⊎ (x ≡ s)
chosen_if best x s true e = inr (some_same x s e)
chosen_if best x s false e = inl e

chosen_of : (before : Named → Named → Bool) (start : Option Named) (x s : Named) → chosen before start x ≡ Some s → (start ≡ Some s) ⊎ (x ≡ s)
chosen_of before None x s e = inr (some_same x s e)
chosen_of before (Some best) x s e = chosen_if best x s (before x best) e

kept_if : (before : Named → Named → Bool) (p : Named → Bool) (xs : List Named) (start : Option Named) (x s : Named) (b : Bool) → p x ≡ b
    → ((later : Option Named) → fold (chosen before) later (filter p xs) ≡ Some s → (later ≡ Some s) ⊎ IsOne p xs s)
    → fold (chosen before) start (if b then x ∷ filter p xs else filter p xs) ≡ Some s → (start ≡ Some s) ⊎ IsOne p (x ∷ xs) s
kept_if before p xs start x s true passes rest e =
    elim (rest (chosen before start x) e) [
      | inl is ↦ elim (chosen_of before start x s is) [ inl first ↦ inl first | inr same ↦ inr (one_first p x s xs passes same) ]
      | inr one ↦ inr (one_later p x s xs one)
    ]
kept_if before p xs start x s false passes rest e =
    elim (rest start e) [ inl first ↦ inl first | inr one ↦ inr (one_later p x s xs one) ]

-- what is chosen of those that pass a test is the one that it began with, or one that passes
kept_by : (before : Named → Named → Bool) (p : Named → Bool) (xs : List Named) (start : Option Named) (s : Named) → fold (chosen before) start (filter p xs) ≡ Some s → (start ≡ Some s) ⊎ IsOne p xs s
kept_by before p [] start s e = inl e
kept_by before p (x ∷ xs) start s e = kept_if before p xs start x s (p x) refl (λ later. kept_by before p xs later s) e

first_passes : (before : Named → Named → Bool) (p : Named → Bool) (xs : List Named) (s : Named) → first_of before (filter p xs) ≡ Some s → IsOne p xs s
first_passes before p xs s e = elim (kept_by before p xs None s e) [ inl none ↦ cc | inr one ↦ one ]

not_true : (b : Bool) → not b ≡ true → b ≡ false
not_true true h = sym h
not_true false h = refl

-- ---- a symbol that holds the address

held_name : (image : Contents) (address : ℕ) (s : Named) → holder image address ≡ Some s → IsNameOf image address s
unfolding holder
held_name image address s e =
    let one = first_passes holds_closer (holds address) image.symbols s e in
    let parts = and_parts (not (is_mark s.name) && nat_le s.value address) (nat_lt address (s.value + s.size)) one.0 in
    let front = and_parts (not (is_mark s.name)) (nat_le s.value address) parts.0 in
    let before : s.value ≤ address = grind (arith, nat_tests, front.1) in
    let past : address < s.value + s.size = grind (arith, nat_tests, parts.1) in
    record {
      of_image = one.1;
      no_mark = not_true (is_mark s.name) front.0;
      begins = before;
      ends = λ some. past;
      near = λ none. absurd (omega (arith, before, past, none));
    }

-- ---- a label

label_if : (t s : Named) (b : Bool) → has_size t ≡ b → (if b then None else Some t) ≡ Some s → (Some t ≡ Some s) × (has_size s ≡ false)
label_if t s true sized e = cc
label_if t s false sized e = (e, ap has_size (sym (some_same t s e)) ∙ sized)

label_of : (o : Option Named) (s : Named) → option_and_then unless_sized o ≡ Some s → (o ≡ Some s) × (has_size s ≡ false)
label_of None s e = cc
label_of (Some t) s e = label_if t s (has_size t) refl e

segment_of : (image : Contents) (address : ℕ) (s : Named) (o : Option Extent) → find (is_inside address) image.segments ≡ o → option_and_then (λ segment. option_and_then unless_sized (nearest image segment address)) o ≡ Some s → IsNameOf image address s
segment_of image address s None found e = cc
segment_of image address s (Some segment) found e =
    let at = label_of (nearest image segment address) s e in
    let one = first_passes is_nearer (is_below address segment) image.symbols s at.0 in
    let parts = and_parts (not (is_mark s.name) && nat_le segment.start s.value) (nat_le s.value address) one.0 in
    let front = and_parts (not (is_mark s.name)) (nat_le segment.start s.value) parts.0 in
    let below : s.value ≤ address = grind (arith, nat_tests, parts.1) in
    let inside : segment.start ≤ s.value = grind (arith, nat_tests, front.1) in
    let none : s.size ≡ 0 = grind (arith, nat_tests, at.1) in
    record {
      of_image = one.1;
      no_mark = not_true (is_mark s.name) front.0;
      begins = below;
      ends = λ some. absurd (omega (arith, some, none));
      near = λ unsized. rw found inside;
    }

label_name : (image : Contents) (address : ℕ) (s : Named) → label image address ≡ Some s → IsNameOf image address s
unfolding label
label_name image address s e = segment_of image address s (find (is_inside address) image.segments) refl e

either_name : (image : Contents) (address : ℕ) (s : Named) (o : Option Named) → holder image address ≡ o → or_else o (label image address) ≡ Some s → IsNameOf image address s
either_name image address s None held e = label_name image address s e
either_name image address s (Some t) held e = held_name image address s (held ∙ e)

pub addresses_are_held : AddressesAreHeld
unfolding symbol_of
addresses_are_held image address s e = either_name image address s (holder image address) refl e
