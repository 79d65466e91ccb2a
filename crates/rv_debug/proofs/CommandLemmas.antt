-- A line's first bytes tell its command, since no command is long.
use Rattle.std.proofs.Common.{◌≡◌, ℕ, ◌+◌, ◌-◌, ◌^◌, ◌<◌, ◌≤◌, Bool, true, false, ◌==◌, ◌&&◌, List, [], ◌∷◌, Option, Some, None, cond, length, refl, sym, ap, ◌∙◌, inl, inr, arith}
use Rattle.std.specs.Prelude.{if◌then◌else◌, nat_le, option_and_then, option_map, ◌⊎◌, codes}
use Rattle.std.specs.Fmt.{decimal}
use Rattle.std.specs.List.{onto_first}
use Rattle.std.specs.Str.{bytes_eq}
use Rattle.std.proofs.lemmas.Bool.Decides.{nat_tests}
use Rattle.std.proofs.lemmas.Fmt.{length-decimal-le}
use Rattle.std.proofs.lemmas.List.{length-take, take_all}
use Rattle.rv_text.specs.Decimal.{DecimalHasOneSpelling, decimal_of}
use Rattle.rv_text.specs.Hexadecimal.{word_of}
use Rattle.rv_text.specs.Numeral.{up_to}
use Rattle.rv_text.specs.Pieces.{pieces_of}
use Rattle.rv_debug.specs.Command.{command_from, command_in, command_of, command_with, count_in, number_in, plain_command, unless_zero}
use Rattle.rv_debug.specs.internal.Lines.{kept}
use Rattle.rv_debug.specs.declared.command.Command.{Command}
use Rattle.rv_debug.specs.declared.command.Command.TheVariants.{Go, Hart, Find, Bytes, Lines}

-- ---- the pieces of a line

-- the bytes of some pieces, and one more for each
abbrev room : List (List ℕ) → ℕ
room [] = 0
room (piece ∷ pieces) = (length piece + 1) + room pieces

room_of_first : (b : ℕ) (pieces : List (List ℕ)) → 0 < length pieces → room (onto_first b pieces) ≡ room pieces + 1
room_of_first b [] some = absurd (omega arith)
room_of_first b (piece ∷ pieces) some =
    let before : room (piece ∷ pieces) ≡ (length piece + 1) + room pieces = refl in
    let after : room ((b ∷ piece) ∷ pieces) ≡ (length (b ∷ piece) + 1) + room pieces = refl in
    after ∙ omega (arith, before)

some_piece : (test : Bool) (b : ℕ) (pieces : List (List ℕ)) → 0 < length (cond test ([] ∷ pieces) (onto_first b pieces))
some_piece true b pieces = omega arith
some_piece false b [] = omega arith
some_piece false b (piece ∷ pieces) = omega arith

pieces_some : (separator : ℕ) (text : List ℕ) → 0 < length (pieces_of separator text)
pieces_some separator [] = omega arith
pieces_some separator (b ∷ text) = some_piece (b == separator) b (pieces_of separator text)

room_of_more : (test : Bool) (b n : ℕ) (pieces : List (List ℕ)) → 0 < length pieces → room pieces ≡ n → room (cond test ([] ∷ pieces) (onto_first b pieces)) ≡ n + 1
room_of_more true b n pieces some is =
    let after : room ([] ∷ pieces) ≡ (0 + 1) + room pieces = refl in
    after ∙ omega (arith, is)
room_of_more false b n pieces some is = room_of_first b pieces some ∙ ap (λ m. m + 1) is

room_is : (separator : ℕ) (text : List ℕ) → room (pieces_of separator text) ≡ length text + 1
room_is separator [] = refl
room_is separator (b ∷ text) =
    room_of_more (b == separator) b (length text + 1) (pieces_of separator text) (pieces_some separator text) (room_is separator text) ∙ omega arith

-- ---- words that are too long

few_digits : (n : ℕ) → n ≤ 2 ^ 32 → length (decimal n) ≤ 20
few_digits n small = length-decimal-le 20 n (omega arith) (omega arith) (omega arith)

module _ (one_spelling : DecimalHasOneSpelling) where
  past : (limit : ℕ) (word : List ℕ) (n : ℕ) (test : Bool) → nat_le n limit ≡ test → decimal_of word ≡ Some n → limit ≤ 2 ^ 32 → 20 < length word → up_to limit (Some n) ≡ None
  past limit word n false at is small long = rw at refl
  past limit word n true at is small long =
      let within : n ≤ limit = grind (arith, nat_tests) in
      let spelled : word ≡ decimal n = one_spelling word n is (omega arith) in
      let few = few_digits n (omega arith) in
      let size = ap length spelled in
      absurd (omega arith)

  over : (limit : ℕ) (word : List ℕ) (o : Option ℕ) → decimal_of word ≡ o → limit ≤ 2 ^ 32 → 20 < length word → up_to limit o ≡ None
  over limit word None is small long = refl
  over limit word (Some n) is small long = past limit word n (nat_le n limit) refl is small long

  no_number : (limit : ℕ) (word : List ℕ) → limit ≤ 2 ^ 32 → 20 < length word → up_to limit (decimal_of word) ≡ None
  no_number limit word small long = over limit word (decimal_of word) refl small long

  no_count : (limit : ℕ) (word : List ℕ) → limit ≤ 2 ^ 32 → 20 < length word → count_in limit word ≡ None
  no_count limit word small long = ap (λ o. option_and_then unless_zero o) (no_number limit word small long)

  no_word : (word : List ℕ) → 8 < length word → word_of word ≡ None
  unfolding word_of
  no_word word long =
      let other : (length word == 8) ≡ false = grind (arith, nat_tests) in
      rw other refl

  false_first : (test : Bool) → (test && false) ≡ false
  false_first true = refl
  false_first false = refl

  long_name : (a b k : ℕ) (rest : List ℕ) → bytes_eq (a ∷ b ∷ rest) (k ∷ []) ≡ false
  long_name a b k rest = false_first (a == k)

  le_at : (m n : ℕ) (test : Bool) → nat_le m n ≡ test → (m ≤ n) ⊎ (n < m)
  le_at m n true at = inl (grind (arith, nat_tests))
  le_at m n false at = inr (grind (arith, nat_tests))

  le_or_lt : (m n : ℕ) → (m ≤ n) ⊎ (n < m)
  le_or_lt m n = le_at m n (nat_le m n) refl

  -- ---- commands that are too long

  passed_by : (test : Bool) (x o : Option Command) → test ≡ false → o ≡ None → (if test then x else o) ≡ None
  passed_by true x o is rest = cc
  passed_by false x o is rest = rest

  passed_none : (test : Bool) (x o : Option Command) → x ≡ None → o ≡ None → (if test then x else o) ≡ None
  passed_none true x o is rest = is
  passed_none false x o is rest = rest

  plain_long : (a b : ℕ) (rest : List ℕ) → plain_command (a ∷ b ∷ rest) ≡ None
  plain_long a b rest =
      passed_by _ _ _ (long_name a b 102 rest) (passed_by _ _ _ (long_name a b 98 rest) (passed_by _ _ _ (long_name a b 113 rest) refl))

  with_long_name : (a b : ℕ) (rest word : List ℕ) → command_with (a ∷ b ∷ rest) word ≡ None
  with_long_name a b rest word =
      passed_by _ _ _ (long_name a b 103 rest) (passed_by _ _ _ (long_name a b 120 rest) (passed_by _ _ _ (long_name a b 119 rest) refl))

  from_long_name : (a b : ℕ) (rest from number : List ℕ) → command_from (a ∷ b ∷ rest) from number ≡ None
  from_long_name a b rest from number =
      passed_by _ _ _ (long_name a b 109 rest) (passed_by _ _ _ (long_name a b 108 rest) refl)

  with_long_word : (name word : List ℕ) → 20 < length word → command_with name word ≡ None
  with_long_word name word long =
      let number = no_number (2 ^ 32 - 1) word (omega arith) long in
      passed_none (bytes_eq name (codes "g")) (option_map Go (number_in word)) _ (ap (λ o. option_map Go o) number)
      (passed_none (bytes_eq name (codes "x")) (option_map Hart (number_in word)) _ (ap (λ o. option_map Hart o) number)
      (passed_none (bytes_eq name (codes "w")) (option_map Find (word_of word)) None (ap (λ o. option_map Find o) (no_word word (omega arith))) refl))

  none_after : (f : ℕ → ℕ → Command) (count : Option ℕ) (o : Option ℕ) → count ≡ None → option_and_then (λ address. option_map (f address) count) o ≡ None
  none_after f count None none = refl
  none_after f count (Some address) none = ap (λ o. option_map (f address) o) none

  from_long_number : (name from number : List ℕ) → 20 < length number → command_from name from number ≡ None
  from_long_number name from number long =
      let few : (limit : ℕ) → limit ≤ 2 ^ 32 → count_in limit number ≡ None = λ limit small. no_count limit number small long in
      passed_none (bytes_eq name (codes "m")) (option_and_then (λ address. option_map (Bytes address) (count_in 256 number)) (word_of from)) _ (none_after Bytes (count_in 256 number) (word_of from) (few 256 (omega arith)))
      (passed_none (bytes_eq name (codes "l")) (option_and_then (λ address. option_map (Lines address) (count_in 64 number)) (word_of from)) None (none_after Lines (count_in 64 number) (word_of from) (few 64 (omega arith))) refl)

  from_long_from : (name from number : List ℕ) → 8 < length from → command_from name from number ≡ None
  from_long_from name from number long =
      let none = no_word from long in
      passed_none (bytes_eq name (codes "m")) (option_and_then (λ address. option_map (Bytes address) (count_in 256 number)) (word_of from)) _ (ap (λ o. option_and_then (λ address. option_map (Bytes address) (count_in 256 number)) o) none)
      (passed_none (bytes_eq name (codes "l")) (option_and_then (λ address. option_map (Lines address) (count_in 64 number)) (word_of from)) None (ap (λ o. option_and_then (λ address. option_map (Lines address) (count_in 64 number)) o) none) refl)

  no_command : (pieces : List (List ℕ)) → 32 < room pieces → command_in pieces ≡ None
  no_command [] long = refl
  no_command ([] ∷ []) long = absurd (omega arith)
  no_command ((a ∷ []) ∷ []) long = absurd (omega arith)
  no_command ((a ∷ b ∷ name) ∷ []) long = plain_long a b name
  no_command ([] ∷ word ∷ []) long = with_long_word [] word (omega arith)
  no_command ((a ∷ []) ∷ word ∷ []) long = with_long_word (a ∷ []) word (omega arith)
  no_command ((a ∷ b ∷ name) ∷ word ∷ []) long = with_long_name a b name word
  no_command ((a ∷ b ∷ name) ∷ from ∷ number ∷ []) long = from_long_name a b name from number
  no_command ([] ∷ from ∷ number ∷ []) long =
      elim (le_or_lt (length number) 20) [
        | inl few ↦ from_long_from [] from number (omega arith)
        | inr many ↦ from_long_number [] from number many
      ]
  no_command ((a ∷ []) ∷ from ∷ number ∷ []) long =
      elim (le_or_lt (length number) 20) [
        | inl few ↦ from_long_from (a ∷ []) from number (omega arith)
        | inr many ↦ from_long_number (a ∷ []) from number many
      ]
  no_command (name ∷ from ∷ number ∷ word ∷ words) long = refl

  long_line : (text : List ℕ) → 32 ≤ length text → command_of text ≡ None
  unfolding command_of
  long_line text long =
      let size = room_is 32 text in
      no_command (pieces_of 32 text) (omega arith)

  -- what is kept of a line is a command exactly where the line is one
  pub kept_command : (text : List ℕ) → command_of (kept text) ≡ command_of text
  kept_command text =
      elim (le_or_lt (length text) 32) [
        | inl few ↦ ap command_of (take_all 32 text few)
        | inr many ↦ (let size = length-take 32 text in long_line (kept text) (omega arith) ∙ sym (long_line text (omega arith)))
      ]
