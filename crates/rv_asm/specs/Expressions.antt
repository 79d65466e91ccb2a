-- The values of `.word` and `.byte`: numbers, or labels in the place of their addresses.
use Rattle.std.specs.Prelude.{ℕ, ℤ, ◌%◌, ◌^◌, Bool, Option, Some, None, option_map, option_and_then, is_some, List}
use Rattle.std.specs.List.{list_all, filter_map}
use Rattle.std.specs.Int.{cast_unsigned, w64}
use Rattle.rv_asm.specs.Operand.{operand}
use Rattle.rv_asm.specs.declared.reading.operand.Operand.{Operand}
use Rattle.rv_asm.specs.declared.reading.operand.Operand.TheVariants.{Name, Number, Memory, Base}
use Rattle.rv_asm.specs.declared.statement.Expression.{Expression}
use Rattle.rv_asm.specs.declared.statement.Expression.TheVariants as expression

-- the low 32 bits of a number in two's complement
abbrev pub bits_of : ℤ → ℕ
bits_of z = cast_unsigned w64 z % 2 ^ 32

-- the value that an operand stands for, where it is a name or a number in range
abbrev pub expression_of : Operand → Option Expression
expression_of (Name name) = Some (expression.Label name)
expression_of (Number n) = option_map (λ z. expression.Number (bits_of z)) n
expression_of (Memory n base) = None
expression_of (Base base) = None

-- the value in a text
abbrev pub expression_in : List ℕ → Option Expression
expression_in text = option_and_then expression_of (operand text)

-- the values in the pieces of a list
abbrev pub expressions_left : List (List ℕ) → List Expression
expressions_left pieces = filter_map expression_in pieces

abbrev pub are_expressions : List (List ℕ) → Bool
are_expressions pieces = list_all (λ text. is_some (expression_in text)) pieces
