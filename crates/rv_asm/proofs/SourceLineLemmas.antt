-- Operands and values as they are read.
use Rattle.std.proofs.Common.{◌≡◌, ◌<◌, ℕ, true, List, [], ◌∷◌, Option, Some, None, length, drop, map, refl, ap, sym, ◌∙◌, arith}
use Rattle.std.specs.Prelude.{option_map, option_and_then, is_some, slice_get}
use Rattle.std.specs.List.{list_all}
use Rattle.std.proofs.lemmas.Bool.{and_parts, and_from}
use Rattle.rv_text.specs.Pieces.{pieces_of}
use Rattle.rv_asm.specs.Expressions.{expression_of, are_expressions}
use Rattle.rv_asm.specs.Operand.{operand, operands_of, counted}
use Rattle.rv_asm.specs.SourceLine.{is_in_range}
use Rattle.rv_asm.specs.declared.reading.operand.Operand.{Operand}
use Rattle.rv_asm.specs.declared.reading.operand.Operand.TheVariants.{Name, Number, Memory, Base}
use Rattle.rv_asm.specs.declared.reading.operand.Operands.TheVariants.{Three}
use Rattle.rv_asm.specs.declared.reading.values.Values.{Values}
use Rattle.rv_asm.specs.declared.reading.values.Values.TheVariants.{Words, Bytes}

pub operands_some : (text : List ℕ) → 0 < length text → operands_of text ≡ counted (map operand (pieces_of 44 text))
operands_some [] some = absurd (omega arith)
operands_some (byte ∷ text) some = refl

three_of : (pieces : List (List ℕ)) (a b c : Option Operand) → option_map operand (slice_get pieces 0) ≡ Some a → option_map operand (slice_get (drop 1 pieces) 0) ≡ Some b
    → option_map operand (slice_get (drop 1 (drop 1 pieces)) 0) ≡ Some c → slice_get (drop 1 (drop 1 (drop 1 pieces))) 0 ≡ None → counted (map operand pieces) ≡ Three a b c
three_of [] a b c is_a is_b is_c last = cc
three_of (p ∷ []) a b c is_a is_b is_c last = cc
three_of (p ∷ q ∷ []) a b c is_a is_b is_c last = cc
three_of (p ∷ q ∷ r ∷ []) a b c is_a is_b is_c last = cc
three_of (p ∷ q ∷ r ∷ s ∷ rest) a b c is_a is_b is_c last = cc

pub three_operands : (text : List ℕ) (p q r s : List (List ℕ)) (a b c : Option Operand) → 0 < length text → p ≡ pieces_of 44 text → q ≡ drop 1 p → r ≡ drop 1 q → s ≡ drop 1 r
    → Some a ≡ option_map operand (slice_get p 0) → Some b ≡ option_map operand (slice_get q 0) → Some c ≡ option_map operand (slice_get r 0) → None ≡ slice_get s 0 → Three a b c ≡ operands_of text
three_operands text p q r s a b c some is second third fourth is_a is_b is_c last =
    let to_r : r ≡ drop 1 (drop 1 p) = third ∙ ap (λ l. drop 1 l) second in
    let to_s : s ≡ drop 1 (drop 1 (drop 1 p)) = fourth ∙ ap (λ l. drop 1 l) to_r in
    let first = λ (l : List (List ℕ)). option_map operand (slice_get l 0) in
    sym (operands_some text some ∙ ap (λ l. counted (map operand l)) (sym is)
    ∙ three_of p a b c (sym is_a) (ap first (sym second) ∙ sym is_b) (ap first (sym to_r) ∙ sym is_c) (ap (λ l. slice_get l 0) (sym to_s) ∙ sym last))

-- a value in range stands for 32 bits
in_range_is_value : (v : Values) (o : Option Operand) → is_in_range v o ≡ true → is_some (option_and_then expression_of o) ≡ true
in_range_is_value Words None is = cc
in_range_is_value Words (Some o) is = is
in_range_is_value Bytes None is = cc
in_range_is_value Bytes (Some (Name name)) is = cc
in_range_is_value Bytes (Some (Number None)) is = cc
in_range_is_value Bytes (Some (Number (Some n))) is = refl
in_range_is_value Bytes (Some (Memory n base)) is = cc
in_range_is_value Bytes (Some (Base base)) is = cc

pub are_values : (v : Values) (pieces : List (List ℕ)) → list_all (λ piece. is_in_range v (operand piece)) pieces ≡ true → are_expressions pieces ≡ true
are_values v [] all = refl
are_values v (piece ∷ pieces) all =
    let parts = and_parts (is_in_range v (operand piece)) (list_all (λ piece. is_in_range v (operand piece)) pieces) all in
    and_from _ _ (in_range_is_value v (operand piece) parts.0) (are_values v pieces parts.1)
