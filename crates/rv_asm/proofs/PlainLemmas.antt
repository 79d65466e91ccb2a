-- Texts of bytes that cut no line.
use Rattle.std.proofs.Common.{◌≡◌, ℕ, ◌<◌, Bool, true, false, List, [], ◌∷◌, ◌++◌, Some, None, length, map, cond, refl, ap, sym, ◌∙◌, arith, append-nil}
use Rattle.std.specs.Prelude.{not, ◌==◌, ◌||◌, ◌&&◌, if◌then◌else◌, option_and_then}
use Rattle.std.specs.List.{list_all, slice_split, onto_first}
use Rattle.std.specs.Char.{is_ascii}
use Rattle.std.proofs.lemmas.Bool.{and_parts, and_from}
use Rattle.std.proofs.lemmas.Bool.Decides.{nat_tests}
use Rattle.rv_text.specs.Lines.{has_line_feed}
use Rattle.rv_text.specs.Pieces.{pieces_of}
use Rattle.rv_asm.specs.Operand.{at_base, closed_name, is_close, name_or_number, operand, token_operand, with_token}
use Rattle.rv_asm.specs.declared.reading.operand.Operand.TheVariants.{Base}
use Rattle.rv_asm.specs.Text.{is_name, is_name_byte, is_stop, before, since}
use Rattle.rv_asm.specs.declared.reading.text.Stop.{Stop}
use Rattle.rv_asm.specs.declared.reading.text.Stop.TheVariants.{Comment, NameEnd, Blank, TokenEnd, Close, Filled}

-- the bytes of names and numbers
abbrev pub is_plain : ℕ → Bool
is_plain byte = is_name_byte byte || byte == 45

-- and those of operands
abbrev pub is_clean : ℕ → Bool
is_clean byte = is_plain byte || byte == 32 || byte == 44 || byte == 40 || byte == 41

pub all_imply : (p q : ℕ → Bool) → ((x : ℕ) → p x ≡ true → q x ≡ true) → (xs : List ℕ) → list_all p xs ≡ true → list_all q xs ≡ true
all_imply p q imply [] all = refl
all_imply p q imply (x ∷ xs) all =
    let parts = and_parts (p x) (list_all p xs) all in and_from _ _ (imply x parts.0) (all_imply p q imply xs parts.1)

pub all_append : (p : ℕ → Bool) (a b : List ℕ) → list_all p a ≡ true → list_all p b ≡ true → list_all p (a ++ b) ≡ true
all_append p [] b front back = back
all_append p (x ∷ a) b front back =
    let parts = and_parts (p x) (list_all p a) front in and_from _ _ parts.0 (all_append p a b parts.1 back)

abbrev pub runs : Stop → ℕ → Bool
runs stop byte = not (is_stop stop byte)

not_stop : (b : Bool) → not b ≡ true → b ≡ false
not_stop true is = sym is
not_stop false is = refl

pub before-append : (stop : Stop) (a rest : List ℕ) → list_all (runs stop) a ≡ true → before stop (a ++ rest) ≡ a ++ before stop rest
before-append stop [] rest all = refl
before-append stop (x ∷ a) rest all =
    let parts = and_parts (runs stop x) (list_all (runs stop) a) all in
    rw (not_stop (is_stop stop x) parts.0) (ap (λ t. x ∷ t) (before-append stop a rest parts.1))

pub since-append : (stop : Stop) (a rest : List ℕ) → list_all (runs stop) a ≡ true → since stop (a ++ rest) ≡ since stop rest
since-append stop [] rest all = refl
since-append stop (x ∷ a) rest all =
    let parts = and_parts (runs stop x) (list_all (runs stop) a) all in
    rw (not_stop (is_stop stop x) parts.0) (since-append stop a rest parts.1)

pub before-all : (stop : Stop) (a : List ℕ) → list_all (runs stop) a ≡ true → before stop a ≡ a
before-all stop [] all = refl
before-all stop (x ∷ a) all =
    let parts = and_parts (runs stop x) (list_all (runs stop) a) all in
    rw (not_stop (is_stop stop x) parts.0) (ap (λ t. x ∷ t) (before-all stop a parts.1))

pub since-all : (stop : Stop) (a : List ℕ) → list_all (runs stop) a ≡ true → since stop a ≡ []
since-all stop [] all = refl
since-all stop (x ∷ a) all =
    let parts = and_parts (runs stop x) (list_all (runs stop) a) all in
    rw (not_stop (is_stop stop x) parts.0) (since-all stop a parts.1)

-- ---- what plain and clean bytes are not

clean_runs : (byte : ℕ) → is_clean byte ≡ true → runs Comment byte ≡ true
clean_runs byte clean = grind (arith, nat_tests)

clean_ascii : (byte : ℕ) → is_clean byte ≡ true → is_ascii byte ≡ true
clean_ascii byte clean = grind (arith, nat_tests)

plain_clean : (byte : ℕ) → is_plain byte ≡ true → is_clean byte ≡ true
plain_clean byte plain = rw plain refl

plain_token : (byte : ℕ) → is_plain byte ≡ true → runs TokenEnd byte ≡ true
plain_token byte plain = grind (arith, nat_tests)

plain_close : (byte : ℕ) → is_plain byte ≡ true → runs Close byte ≡ true
plain_close byte plain = grind (arith, nat_tests)

plain_filled : (byte : ℕ) → is_plain byte ≡ true → is_stop Filled byte ≡ true
plain_filled byte plain = grind (arith, nat_tests)

plain_no_comma : (byte : ℕ) → is_plain byte ≡ true → not (byte == 44) ≡ true
plain_no_comma byte plain = grind (arith, nat_tests)

name_plain : (byte : ℕ) → is_name_byte byte ≡ true → is_plain byte ≡ true
name_plain byte name = rw name refl

name_blank : (byte : ℕ) → is_name_byte byte ≡ true → runs Blank byte ≡ true
name_blank byte name = grind (arith, nat_tests)

name_run : (byte : ℕ) → is_name_byte byte ≡ true → runs NameEnd byte ≡ true
name_run byte name = rw name refl

pub clean_all : (a : List ℕ) → list_all is_plain a ≡ true → list_all is_clean a ≡ true
clean_all = all_imply is_plain is_clean plain_clean

pub uncommented_all : (a : List ℕ) → list_all is_clean a ≡ true → before Comment a ≡ a
uncommented_all a clean = before-all Comment a (all_imply is_clean (runs Comment) clean_runs a clean)

pub ascii_all : (a : List ℕ) → list_all is_clean a ≡ true → list_all is_ascii a ≡ true
ascii_all = all_imply is_clean is_ascii clean_ascii

pub no_commas : (a : List ℕ) → list_all is_plain a ≡ true → list_all (λ c. not (c == 44)) a ≡ true
no_commas = all_imply is_plain (λ c. not (c == 44)) plain_no_comma

-- ---- pieces

onto_some : (x : ℕ) (parts : List (List ℕ)) → 0 < length (onto_first x parts)
onto_some x [] = omega arith
onto_some x (part ∷ parts) = omega arith

split_some : (p : ℕ → Bool) (xs : List ℕ) → 0 < length (slice_split p xs)
split_some p [] = omega arith
split_some p (x ∷ xs) =
    elim (p x) as (λ b. 0 < length (cond b ([] ∷ slice_split p xs) (onto_first x (slice_split p xs)))) [
      | true ↦ omega arith
      | false ↦ onto_some x (slice_split p xs)
    ]

-- a blank before an operand is as nothing
operands_onto : (parts : List (List ℕ)) → 0 < length parts → map operand (onto_first 32 parts) ≡ map operand parts
operands_onto [] some = absurd (omega arith)
operands_onto (part ∷ parts) some = refl

first_piece : (a rest : List ℕ) → list_all (λ c. not (c == 44)) a ≡ true → pieces_of 44 (a ++ 44 ∷ rest) ≡ a ∷ pieces_of 44 rest
first_piece [] rest all = refl
first_piece (x ∷ a) rest all =
    let parts = and_parts (not (x == 44)) (list_all (λ c. not (c == 44)) a) all in
    rw (not_stop (x == 44) parts.0) (ap (λ l. onto_first x l) (first_piece a rest parts.1))

pub last_piece : (a : List ℕ) → list_all (λ c. not (c == 44)) a ≡ true → pieces_of 44 a ≡ a ∷ []
last_piece [] all = refl
last_piece (x ∷ a) all =
    let parts = and_parts (not (x == 44)) (list_all (λ c. not (c == 44)) a) all in
    rw (not_stop (x == 44) parts.0) (ap (λ l. onto_first x l) (last_piece a parts.1))

pub after_comma : (a rest : List ℕ) → list_all (λ c. not (c == 44)) a ≡ true → map operand (pieces_of 44 (a ++ 44 ∷ 32 ∷ rest)) ≡ operand a ∷ map operand (pieces_of 44 rest)
after_comma a rest all =
    ap (λ l. map operand l) (first_piece a (32 ∷ rest) all) ∙ ap (λ l. operand a ∷ l) (operands_onto (pieces_of 44 rest) (split_some (λ c. c == 44) rest))

pub last_operand : (a : List ℕ) → list_all (λ c. not (c == 44)) a ≡ true → map operand (pieces_of 44 a) ≡ operand a ∷ []
last_operand a all = ap (λ l. map operand l) (last_piece a all)

-- ---- operands

filled_at : (c : ℕ) (a : List ℕ) → is_plain c ≡ true → since Filled (c ∷ a) ≡ c ∷ a
filled_at c a plain = rw (plain_filled c plain) refl

first_plain : (c : ℕ) (a : List ℕ) → list_all is_plain (c ∷ a) ≡ true → is_plain c ≡ true
first_plain c a plain = (and_parts (is_plain c) (list_all is_plain a) plain).0

pub plain_operand : (c : ℕ) (a : List ℕ) → list_all is_plain (c ∷ a) ≡ true → operand (c ∷ a) ≡ name_or_number (c ∷ a)
plain_operand c a plain =
    let token = all_imply is_plain (runs TokenEnd) plain_token (c ∷ a) plain in
    ap token_operand (filled_at c a (first_plain c a plain))
    ∙ ap (λ t. with_token (before TokenEnd (c ∷ a)) (since Filled t)) (since-all TokenEnd (c ∷ a) token)
    ∙ ap (λ t. with_token t []) (before-all TokenEnd (c ∷ a) token)

closed : (r : List ℕ) → list_all is_plain r ≡ true → is_name r ≡ true → closed_name (r ++ 41 ∷ []) ≡ Some r
closed r plain named =
    let run = all_imply is_plain (runs Close) plain_close r plain in
    let front : before Close (r ++ 41 ∷ []) ≡ r = before-append Close r (41 ∷ []) run ∙ append-nil r in
    let back : since Close (r ++ 41 ∷ []) ≡ 41 ∷ [] = since-append Close r (41 ∷ []) run in
    ap (λ f. if is_name f && is_close (since Close (r ++ 41 ∷ [])) then Some f else None) front
    ∙ ap (λ b. if is_name r && is_close b then Some r else None) back
    ∙ ap (λ b. if b && true then Some r else None) named

pub base_operand : (r : List ℕ) → list_all is_plain r ≡ true → is_name r ≡ true → operand (40 ∷ (r ++ 41 ∷ [])) ≡ Some (Base r)
base_operand r plain named = ap (λ o. option_and_then (at_base []) o) (closed r plain named)

pub memory_operand : (c : ℕ) (a r : List ℕ) → list_all is_plain (c ∷ a) ≡ true → list_all is_plain r ≡ true → is_name r ≡ true → operand ((c ∷ a) ++ (40 ∷ (r ++ 41 ∷ []))) ≡ at_base (c ∷ a) r
memory_operand c a r plain name_plain named =
    let rest : List ℕ = 40 ∷ (r ++ 41 ∷ []) in
    let token = all_imply is_plain (runs TokenEnd) plain_token (c ∷ a) plain in
    let front : before TokenEnd ((c ∷ a) ++ rest) ≡ c ∷ a = before-append TokenEnd (c ∷ a) rest token ∙ append-nil (c ∷ a) in
    let back : since TokenEnd ((c ∷ a) ++ rest) ≡ rest = since-append TokenEnd (c ∷ a) rest token in
    ap token_operand (filled_at c (a ++ rest) (first_plain c a plain))
    ∙ ap (λ t. with_token (before TokenEnd ((c ∷ a) ++ rest)) (since Filled t)) back
    ∙ ap (λ t. with_token t rest) front
    ∙ ap (λ o. option_and_then (at_base (c ∷ a)) o) (closed r name_plain named)

-- ---- whole lines

no_line_feed : (byte : ℕ) → is_clean byte ≡ true → (byte == 10) ≡ false
no_line_feed byte clean = grind (arith, nat_tests)

pub one_line : (text : List ℕ) → list_all is_clean text ≡ true → has_line_feed text ≡ false
one_line [] all = refl
one_line (x ∷ text) all =
    let parts = and_parts (is_clean x) (list_all is_clean text) all in rw (no_line_feed x parts.0) (one_line text parts.1)

pub filled_front : (a rest : List ℕ) → 0 < length a → list_all is_plain a ≡ true → since Filled (a ++ rest) ≡ a ++ rest
filled_front [] rest some plain = absurd (omega arith)
filled_front (c ∷ a) rest some plain = filled_at c (a ++ rest) (first_plain c a plain)

pub name_plain_all : (a : List ℕ) → list_all is_name_byte a ≡ true → list_all is_plain a ≡ true
name_plain_all = all_imply is_name_byte is_plain name_plain

pub name_run_all : (a : List ℕ) → list_all is_name_byte a ≡ true → list_all (runs NameEnd) a ≡ true
name_run_all = all_imply is_name_byte (runs NameEnd) name_run

pub name_blank_all : (a : List ℕ) → list_all is_name_byte a ≡ true → list_all (runs Blank) a ≡ true
name_blank_all = all_imply is_name_byte (runs Blank) name_blank
