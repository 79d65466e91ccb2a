-- Where the names of a string table begin.
use Rattle.std.proofs.Common.{◌≡◌, ℕ, zero, suc, add-one, drop-cons, ◌+◌, ◌-◌, ◌<◌, ◌≤◌, Bool, true, false, ◌&&◌, cond, eqb, leb, Option, Some, None, List, [], ◌∷◌, ◌++◌, length, take, drop, get_or, refl, sym, ap, subst, ◌∙◌, arith, append_assoc, inl, inr}
use Rattle.std.specs.Prelude.{slice_get}
use Rattle.std.specs.Option.{option_map}
use Rattle.std.specs.List.{cons_option}
use Rattle.std.specs.Str.{IsUtf8, is_utf8, IsCharBoundary, IsValidUpTo}
use Rattle.std.proofs.lemmas.Bool.{cases_lt, lt-leb, le-leb}
use Rattle.std.proofs.lemmas.Bool.Decides.{nat_tests}
use Rattle.std.proofs.lemmas.List.{get_or-take, get_or-drop, take-take, drop-drop, length-take, length-drop, take-append-drop}
use Rattle.std.proofs.lemmas.Str.{IsUtf8-nil, IsUtf8-append, IsUtf8-take, IsUtf8-drop, IsCharBoundary-from_drop, IsUtf8-from_is_utf8}
use Rattle.rv_elf.specs.Loaded.{text}
use Rattle.rv_elf.specs.internal.Steps.{is_name, starts_in, name_starts, IsUtf8From, is_first}
use Rattle.rv_elf.proofs.Facts.{same_some}
use Rattle.rv_elf.proofs.Texts.{from_utf8, not_utf8}

abbrev no_text : Option (List ℕ)
no_text = None

-- ---- texts and their zero bytes

-- where no zero byte follows, none follows later
none_behind : (is_zero : Bool) (b : ℕ) (rest : Option (List ℕ)) → cond is_zero (Some []) (option_map (λ t. b ∷ t) rest) ≡ no_text → rest ≡ no_text
none_behind true b rest e = absurd cc
none_behind false b None e = refl
none_behind false b (Some t) e = absurd cc

none_later : (b : ℕ) (bytes : List ℕ) → text (b ∷ bytes) ≡ no_text → text bytes ≡ no_text
none_later b bytes e = none_behind (eqb b 0) b (text bytes) e

none_after : (bytes : List ℕ) (place : ℕ) → text bytes ≡ no_text → text (drop place bytes) ≡ no_text
none_after [] zero e = e
none_after [] (suc place) e = e
none_after (b ∷ bytes) zero e = e
none_after (b ∷ bytes) (suc place) e = none_after bytes place (none_later b bytes e)

pub no_starts : (bytes : List ℕ) → text bytes ≡ no_text → name_starts bytes ≡ []
no_starts [] e = refl
no_starts (b ∷ bytes) e = ap (λ o. cons_option (option_map is_name o) (name_starts bytes)) e ∙ no_starts bytes (none_later b bytes e)

-- ---- a place

starts_first : (found : Option (List ℕ)) (rest : List Bool) → (found ≡ no_text → rest ≡ []) → slice_get (cons_option (option_map is_name found) rest) 0 ≡ option_map is_name found
starts_first None rest none = ap (λ xs. slice_get xs 0) (none refl)
starts_first (Some t) rest none = refl

starts_next : (found : Option (List ℕ)) (rest : List Bool) (place : ℕ) (there : Option Bool) → (found ≡ no_text → rest ≡ []) → (found ≡ no_text → there ≡ None)
    → slice_get rest place ≡ there → slice_get (cons_option (option_map is_name found) rest) (suc place) ≡ there
starts_next None rest place there none out e = ap (λ xs. slice_get xs (suc place)) (none refl) ∙ sym (out refl)
starts_next (Some t) rest place there none out e = e

pub starts_at : (bytes : List ℕ) (place : ℕ) → slice_get (name_starts bytes) place ≡ option_map is_name (text (drop place bytes))
starts_at [] zero = refl
starts_at [] (suc place) = refl
starts_at (b ∷ bytes) zero = starts_first (text (b ∷ bytes)) (name_starts bytes) (λ e. no_starts bytes (none_later b bytes e))
starts_at (b ∷ bytes) (suc place) =
    starts_next (text (b ∷ bytes)) (name_starts bytes) place (option_map is_name (text (drop place bytes))) (λ e. no_starts bytes (none_later b bytes e))
    (λ e. ap (option_map is_name) (none_after bytes place (none_later b bytes e))) (starts_at bytes place)

-- ---- a text and its zero byte

-- what a first text is made of
pub record IsSplit (bytes found : List ℕ) : Type 0 where
  pub short : length found < length bytes
  pub starts : name_starts bytes ≡ starts_in found ++ name_starts (drop (suc (length found)) bytes)

split_cons : (is_zero : Bool) (b : ℕ) (bytes : List ℕ) (rest : Option (List ℕ)) (found : List ℕ) → eqb b 0 ≡ is_zero → text bytes ≡ rest
    → ((t : List ℕ) → rest ≡ Some t → IsSplit bytes t) → cond is_zero (Some []) (option_map (λ t. b ∷ t) rest) ≡ Some found → IsSplit (b ∷ bytes) found
split_cons true b bytes rest found zero-is rest-is ih e =
    subst (IsSplit (b ∷ bytes)) (same_some [] found e) (record { short = omega arith; starts = rw (zero-is, from_utf8 [] IsUtf8-nil) refl })
split_cons false b bytes None found zero-is rest-is ih e = absurd cc
split_cons false b bytes (Some t) found zero-is rest-is ih e =
    let h = ih t refl in
    let short = h.short in
    subst (IsSplit (b ∷ bytes)) (same_some (b ∷ t) found e) (record { short = omega (arith, short); starts = rw (zero-is, rest-is) (ap (λ starts. is_name (b ∷ t) ∷ starts) h.starts) })

pub split_at_zero : (bytes found : List ℕ) → text bytes ≡ Some found → IsSplit bytes found
split_at_zero [] found e = absurd cc
split_at_zero (b ∷ bytes) found e = split_cons (eqb b 0) b bytes (text bytes) found refl refl (λ t h. split_at_zero bytes t h) e

-- ---- UTF-8 from a place on

-- where a fault is met, from no place up to it all is UTF-8
pub no_earlier : (bytes : List ℕ) (valid place : ℕ) → ¬ (IsUtf8 bytes) → IsValidUpTo bytes valid → place ≤ valid → is_utf8 (drop place bytes) ≡ false
no_earlier bytes valid place fault up h =
    let short = up.short in
    not_utf8 (drop place bytes) (λ u.
    let boundary = IsCharBoundary-from_drop bytes place (omega (arith, short)) u in
    let whole : length (take valid bytes) ≡ valid = grind (arith, length-take) in
    let cut : IsCharBoundary (take valid bytes) place =
    (omega arith, λ inside high. let same = get_or-take valid bytes place 0 (omega arith) in rw same (boundary.1 (omega (arith, short)) (rw same at high))) in
    let front = subst IsUtf8 (take-take place valid bytes h) (IsUtf8-take (take valid bytes) place up.front cut) in
    fault (subst IsUtf8 (take-append-drop place bytes) (IsUtf8-append (take place bytes) (drop place bytes) front u)))

first_high : (byte : ℕ) → is_first byte ≡ true → 128 ≤ byte → 192 ≤ byte
first_high byte e h = grind (arith, nat_tests)

inside_char : (byte : ℕ) → is_first byte ≡ false → (128 ≤ byte) × (byte < 192)
inside_char byte e = grind (arith, nat_tests)

-- behind the least place all is UTF-8 from where a character begins
from_first : (bytes : List ℕ) (from place byte : ℕ) → IsUtf8From bytes from → from ≤ place → place < length bytes → byte ≡ get_or bytes place 0 → is_first byte ≡ true
    → is_utf8 (drop place bytes) ≡ true
from_first bytes from place byte h le inside is first =
    let at : from + (place - from) ≡ place = omega arith in
    let there : get_or (drop from bytes) (place - from) 0 ≡ byte = get_or-drop from bytes (place - from) 0 ∙ ap (λ n. get_or bytes n 0) at ∙ sym is in
    let cut : IsCharBoundary (drop from bytes) (place - from) = (omega (arith, length-drop from bytes), λ _ high. rw there (first_high byte first (rw there at high))) in
    let rest = drop-drop (place - from) from bytes ∙ ap (λ n. drop n bytes) at in
    from_utf8 (drop place bytes) (subst IsUtf8 rest (IsUtf8-drop (drop from bytes) (place - from) (IsUtf8-from_is_utf8 (drop from bytes) h.rest) cut))

not_inside : (bytes : List ℕ) (place byte : ℕ) → place < length bytes → byte ≡ get_or bytes place 0 → is_first byte ≡ false → is_utf8 (drop place bytes) ≡ false
not_inside bytes place byte inside is none =
    not_utf8 (drop place bytes) (λ u.
    let boundary = IsCharBoundary-from_drop bytes place (omega arith) u in
    let range = inside_char byte none in
    let low = range.0 in
    let high = range.1 in
    let past = boundary.1 inside (omega (arith, low, is)) in absurd (omega (arith, past, high, is)))

utf8_at : (first : Bool) (bytes : List ℕ) (from place byte : ℕ) → IsUtf8From bytes from → from ≤ place → place < length bytes → byte ≡ get_or bytes place 0 → is_first byte ≡ first
    → is_utf8 (drop place bytes) ≡ first
utf8_at true bytes from place byte h le inside is e = from_first bytes from place byte h le inside is e
utf8_at false bytes from place byte h le inside is e = not_inside bytes place byte inside is e

and_true : (b : Bool) → b && true ≡ b
and_true true = refl
and_true false = refl

-- what is left of a text at a place makes a symbol from the least such place on, where a character begins
pub start_is : (bytes : List ℕ) (from place byte : ℕ) → IsUtf8From bytes from → place < length bytes → byte ≡ get_or bytes place 0
    → is_name (drop place bytes) ≡ (leb from place && is_first byte)
start_is bytes from place byte h inside is =
    elim (cases_lt place from) [
      | inl lt ↦ rw (h.least place lt, lt-leb from place lt) refl
      | inr le ↦ let some : leb 1 (length (drop place bytes)) ≡ true = le-leb 1 (length (drop place bytes)) (omega (arith, length-drop place bytes)) in
          rw (utf8_at (is_first byte) bytes from place byte h le inside is refl, some, le-leb from place le) (and_true (is_first byte))
    ]

-- the same from a place up to a fault behind it
pub no_place : (bytes : List ℕ) (from valid place : ℕ) → ¬ (IsUtf8 (drop from bytes)) → IsValidUpTo (drop from bytes) valid
    → ((earlier : ℕ) → earlier < from → is_utf8 (drop earlier bytes) ≡ false) → place < from + (valid + 1) → is_utf8 (drop place bytes) ≡ false
no_place bytes from valid place fault up before h =
    elim (cases_lt place from) [
      | inl lt ↦ before place lt
      | inr le ↦ let at : from + (place - from) ≡ place = omega arith in
          let there = drop-drop (place - from) from bytes ∙ ap (λ n. drop n bytes) at in
          sym (ap is_utf8 there) ∙ no_earlier (drop from bytes) valid (place - from) fault up (omega arith)
    ]

-- one more place of a text
pub more_starts : (starts : List Bool) (text : List ℕ) (from place byte : ℕ) → IsUtf8From text from → place < length text → byte ≡ get_or text place 0
    → (starts ++ (leb from place && is_first byte) ∷ []) ++ starts_in (drop (place + 1) text) ≡ starts ++ starts_in (drop place text)
more_starts starts text from place byte h inside is =
    let rest = drop-cons text place 0 inside ∙ ap (λ n. get_or text place 0 ∷ drop n text) (sym (add-one place)) in
    let here : starts_in (drop place text) ≡ is_name (drop place text) ∷ starts_in (drop (place + 1) text) =
    ap starts_in rest ∙ ap (λ t. is_name t ∷ starts_in (drop (place + 1) text)) (sym rest) in
    append_assoc starts _ _ ∙ ap (λ b. starts ++ b ∷ starts_in (drop (place + 1) text)) (sym (start_is text from place byte h inside is)) ∙ ap (λ t. starts ++ t) (sym here)
