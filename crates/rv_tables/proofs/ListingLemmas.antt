-- A list of races, one race more.
use Rattle.std.proofs.Common.{◌≡◌, ℕ, ◌+◌, ◌<◌, Bool, true, false, Some, None, List, [], ◌∷◌, ◌++◌, map, take, length, get_or, refl, sym, ap, ◌∙◌, arith, append_assoc, append-nil}
use Rattle.std.specs.Prelude.{if◌then◌else◌, nat_le, ◌&&◌}
use Rattle.std.proofs.lemmas.Bool.Decides.{nat_tests}
use Rattle.std.proofs.lemmas.List.{take_more}
use Rattle.rv_text.specs.Lines.{text_of_lines}
use Rattle.rv_tables.proofs.WordLemmas.{spelled_field_length, spelled_length}
use Rattle.rv_tables.specs.declared.merge.ignore.TheConstants.{LONGEST_WORD}
use Rattle.rv_tables.specs.declared.row.RaceRow.{RaceRow}
use Rattle.rv_tables.specs.merge.Ignore.{has_bytes, is_short, spelled, spelled_field}
use Rattle.rv_tables.specs.merge.Listing.{word_if}
use Rattle.rv_report.specs.declared.key.Key.{Key}

abbrev Row : Type 0
Row = Key × RaceRow

lines_append : (f : Row → List ℕ) (xs : List Row) (x : Row) → text_of_lines (map f (xs ++ x ∷ [])) ≡ text_of_lines (map f xs) ++ (f x ++ 10 ∷ [])
lines_append f [] x = append-nil (f x ++ 10 ∷ [])
lines_append f (y ∷ xs) x =
    ap (λ (t : List ℕ). (f y ++ 10 ∷ []) ++ t) (lines_append f xs x) ∙ sym (append_assoc (f y ++ 10 ∷ []) (text_of_lines (map f xs)) (f x ++ 10 ∷ []))

pub text_more : (f : Row → List ℕ) (races : List Row) (place : ℕ) (race : Row) (before after : List ℕ) → place < length races → race ≡ get_or races place race → before ≡ text_of_lines (map f (take place races)) → after ≡ before ++ (f race ++ 10 ∷ [])
    → after ≡ text_of_lines (map f (take (place + 1) races))
text_more f races place race before after within is so_far after_is =
    let taken : take (place + 1) races ≡ take place races ++ race ∷ [] = take_more races place race within ∙ ap (λ (r : Row). take place races ++ r ∷ []) (sym is) in
    after_is ∙ ap (λ (t : List ℕ). t ++ (f race ++ 10 ∷ [])) so_far ∙ sym (lines_append f (take place races) race) ∙ ap (λ (rs : List Row). text_of_lines (map f rs)) (sym taken)

and_false : (b : Bool) → (b && false) ≡ false
and_false true = refl
and_false false = refl

pub field_too_long : (name : List ℕ) → LONGEST_WORD < length name → word_if (spelled_field name) ≡ None
field_too_long name long =
    let longer = spelled_field_length name in
    let over : is_short (spelled_field name) ≡ false = grind (arith, nat_tests, longer, long) in
    rw (over, and_false (has_bytes (spelled_field name))) refl

pub too_long : (name : List ℕ) → LONGEST_WORD < length name → word_if (spelled name) ≡ None
too_long name long =
    let longer = spelled_length name in
    let over : is_short (spelled name) ≡ false = grind (arith, nat_tests, longer, long) in
    rw (over, and_false (has_bytes (spelled name))) refl
