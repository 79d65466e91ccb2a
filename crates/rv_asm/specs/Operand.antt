-- The operands of a statement by their shapes.
use Rattle.std.specs.Prelude.{ℕ, Bool, false, ◌==◌, ◌&&◌, if◌then◌else◌, Option, Some, None, option_map, option_and_then, List, [], ◌∷◌, map}
use Rattle.rv_text.specs.Pieces.{pieces_of}
use Rattle.rv_asm.specs.Number.{number}
use Rattle.rv_asm.specs.Text.{is_name, is_empty, before, since}
use Rattle.rv_asm.specs.declared.reading.operand.Operand.{Operand}
use Rattle.rv_asm.specs.declared.reading.operand.Operand.TheVariants.{Name, Number, Memory, Base}
use Rattle.rv_asm.specs.declared.reading.operand.Operands.{Operands}
use Rattle.rv_asm.specs.declared.reading.operand.Operands.TheVariants as operands
use Rattle.rv_asm.specs.declared.reading.text.Stop.TheVariants.{TokenEnd, Close, Filled}

-- The operands of a statement by their shapes: `name`, `number`, `number(name)` and `(name)`. An operand of
-- another shape is None.

abbrev pub name_or_number : List ℕ → Option Operand
name_or_number text = if is_name text then Some (Name text) else option_map Number (number text)

-- a `)` with nothing but blanks after it
abbrev pub is_close : List ℕ → Bool
is_close [] = false
is_close (byte ∷ text) = is_empty (since Filled text)

-- the name in `name)`
abbrev pub closed_name : List ℕ → Option (List ℕ)
closed_name text = if is_name (before Close text) && is_close (since Close text) then Some (before Close text) else None

-- a base with an offset before it, or none
abbrev pub at_base : List ℕ → List ℕ → Option Operand
at_base [] base = Some (Base base)
at_base offset base = option_map (λ n. Memory n base) (number offset)

-- a token with nothing or a parenthesis after it
abbrev pub with_token : List ℕ → List ℕ → Option Operand
with_token token [] = name_or_number token
with_token token (byte ∷ rest) = if byte == 40 then option_and_then (at_base token) (closed_name rest) else None

abbrev pub token_operand : List ℕ → Option Operand
token_operand text = with_token (before TokenEnd text) (since Filled (since TokenEnd text))

-- the operand in a text that blanks may stand before and after
abbrev pub operand : List ℕ → Option Operand
operand text = token_operand (since Filled text)

-- up to three operands; no instruction has more
abbrev pub counted : List (Option Operand) → Operands
counted (a ∷ []) = operands.One a
counted (a ∷ b ∷ []) = operands.Two a b
counted (a ∷ b ∷ c ∷ []) = operands.Three a b c
counted _ = operands.More

-- the operands in a text, with a comma between two of them
abbrev pub operands_of : List ℕ → Operands
operands_of [] = operands.Empty
operands_of text = counted (map operand (pieces_of 44 text))
