-- The bytes of a statement, with each label in the place of its address.
use Rattle.std.specs.Prelude.{ℕ, ◌%◌, List, [], ◌∷◌, ◌++◌, replicate, Option, Some, None, option_map, Result, Ok}
use Rattle.std.specs.Int.{to_le_bytes, w32}
use Rattle.std.specs.Option.{ok_or}
use Rattle.rv_isa.specs.declared.instr.Instr.{Instr}
use Rattle.rv_isa.specs.declared.op.Op.{Op}
use Rattle.rv_memory.specs.Chain.{◌>>=◌}
use Rattle.rv_isa.specs.Encoded.{encoded}
use Rattle.rv_asm.specs.Instruction.{fields, instruction, load_pair, distance}
use Rattle.rv_asm.specs.Layout.{spot_of}
use Rattle.rv_asm.specs.declared.passes.place.Label.{Label}
use Rattle.rv_asm.specs.declared.statement.AsmKind.{AsmKind}
use Rattle.rv_asm.specs.declared.statement.AsmKind.TheVariants.{LabelUnknown}
use Rattle.rv_asm.specs.declared.statement.Expression.{Expression}
use Rattle.rv_asm.specs.declared.statement.Expression.TheVariants.{Label as LabelNamed, Number}
use Rattle.rv_asm.specs.declared.statement.Statement.{Statement}
use Rattle.rv_asm.specs.declared.statement.Statement.TheVariants as statement

-- the address of a label
unfoldable pub address_named : List Label → List ℕ → Result ℕ AsmKind
address_named labels name = ok_or (option_map (λ spot. spot.address) (spot_of labels name)) LabelUnknown

-- what an expression stands for
abbrev pub value_of : List Label → Expression → Result ℕ AsmKind
value_of labels (LabelNamed name) = address_named labels name
value_of labels (Number n) = Ok n

-- an instruction's word, the least significant byte first
abbrev pub instr_bytes : Instr → List ℕ
instr_bytes instr = to_le_bytes w32 (encoded instr)

abbrev pub pair_bytes : Instr × Instr → List ℕ
pair_bytes pair = instr_bytes pair.0 ++ instr_bytes pair.1

-- the values of `.word` and `.byte`, each in its bytes
unfoldable pub values_bytes : (ℕ → List ℕ) → List Label → List Expression → Result (List ℕ) AsmKind
values_bytes written labels [] = Ok []
values_bytes written labels (value ∷ values) = do
  n ← value_of labels value
  rest ← values_bytes written labels values
  Ok (written n ++ rest)

abbrev pub word_bytes : ℕ → List ℕ
word_bytes n = to_le_bytes w32 n

abbrev pub low_byte : ℕ → List ℕ
low_byte n = n % 256 ∷ []

-- a branch or a jump at an address
unfoldable pub jump_bytes : List Label → ℕ → Op → ℕ → ℕ → ℕ → Expression → Result (List ℕ) AsmKind
jump_bytes labels address op rd rs1 rs2 target = do
  to ← value_of labels target
  instr ← instruction op (fields rd rs1 rs2 (distance address to))
  Ok (instr_bytes instr)

unfoldable pub la_bytes : List Label → ℕ → List ℕ → Result (List ℕ) AsmKind
la_bytes labels rd name = do
  to ← address_named labels name
  pair ← load_pair rd to
  Ok (pair_bytes pair)

-- the bytes of a statement at an address
unfoldable pub statement_bytes : List Label → ℕ → Statement → Result (List ℕ) AsmKind
statement_bytes labels address (statement.Instr instr) = Ok (instr_bytes instr)
statement_bytes labels address (statement.Pair first second) = Ok (pair_bytes (first, second))
statement_bytes labels address (statement.Jump op rd rs1 rs2 target) = jump_bytes labels address op rd rs1 rs2 target
statement_bytes labels address (statement.La rd name) = la_bytes labels rd name
statement_bytes labels address (statement.Section section) = Ok []
statement_bytes labels address (statement.Words values) = values_bytes word_bytes labels values
statement_bytes labels address (statement.Bytes values) = values_bytes low_byte labels values
statement_bytes labels address (statement.Zero count) = Ok (replicate count 0)
statement_bytes labels address statement.Global = Ok []

-- the bytes of a line's statement, if it has one
abbrev pub bytes_of : List Label → ℕ → Option Statement → Result (List ℕ) AsmKind
bytes_of labels address None = Ok []
bytes_of labels address (Some statement) = statement_bytes labels address statement
