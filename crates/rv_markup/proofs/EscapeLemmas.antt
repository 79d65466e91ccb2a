-- Escaped texts, byte by byte.
use Rattle.std.proofs.Common.{◌≡◌, ℕ, ◌+◌, ◌<◌, ◌/◌, ◌%◌, ◌||◌, Bool, false, List, [], ◌∷◌, ◌++◌, take, length, get_or, ap, sym, ◌∙◌, refl, append-nil, arith}
use Rattle.std.proofs.lemmas.Bool.Decides.{nat_tests}
use Rattle.std.proofs.lemmas.Grind.{flat_map-append}
use Rattle.std.proofs.lemmas.List.{take_more}
use Rattle.std.proofs.lemmas.List.Folds.{list_any-append}
use Rattle.std.specs.Char.{digit_char}
use Rattle.std.specs.List.{list_any}
use Rattle.rv_text.specs.Hexadecimal.{byte_digits}
use Rattle.rv_markup.specs.Escaped.{escaped, escaped_byte, is_hidden}
use Rattle.rv_markup.specs.MarkupLaws.{IsPlain, OpensNothing, is_markup}

-- a text of which no byte passes a test, byte by byte
none_passes : (p : ℕ → Bool) → ((byte : ℕ) → list_any p (escaped_byte byte) ≡ false) → (text : List ℕ) → list_any p (escaped text) ≡ false
none_passes p each [] = refl
none_passes p each (byte ∷ text) =
    list_any-append p (escaped_byte byte) (escaped text) ∙ ap (λ b. b || list_any p (escaped text)) (each byte) ∙ none_passes p each text

digit_is_no_markup : (n : ℕ) → is_markup (digit_char (n % 16)) ≡ false
digit_is_no_markup n = grind (arith, nat_tests)

digit_is_shown : (n : ℕ) → is_hidden (digit_char (n % 16)) ≡ false
digit_is_shown n = grind (arith, nat_tests)

byte_is_no_markup : (byte : ℕ) → list_any is_markup (escaped_byte byte) ≡ false
unfolding byte_digits
byte_is_no_markup byte = grind (arith, nat_tests, digit_is_no_markup byte, digit_is_no_markup (byte / 16))

byte_is_shown : (byte : ℕ) → list_any is_hidden (escaped_byte byte) ≡ false
unfolding byte_digits
byte_is_shown byte = grind (arith, nat_tests, digit_is_shown byte, digit_is_shown (byte / 16))

pub opens_nothing : OpensNothing
opens_nothing = none_passes is_markup byte_is_no_markup

pub is_plain : IsPlain
is_plain = none_passes is_hidden byte_is_shown

-- one byte more of a text
pub escaped_next : (text : List ℕ) (n d : ℕ) (old new' : List ℕ) → n < length text → old ≡ escaped (take n text) → new' ≡ old ++ escaped_byte (get_or text n d) → new' ≡ escaped (take (n + 1) text)
escaped_next text n d old new' inside so_far added =
    let byte = get_or text n d in
    added ∙ ap (λ t. t ++ escaped_byte byte) so_far ∙ ap (λ t. escaped (take n text) ++ t) (sym (append-nil (escaped_byte byte)))
    ∙ sym (flat_map-append escaped_byte (take n text) (byte ∷ [])) ∙ ap escaped (sym (take_more text n d inside))
