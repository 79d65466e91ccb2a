-- The operation and the instruction of a word, or none where no row of the table matches it.
use Rattle.std.specs.Prelude.{ℕ, Option, option_map}
use Rattle.std.specs.List.{find}
use Rattle.rv_isa.specs.Operands.{operands_of}
use Rattle.rv_isa.specs.OperandsFit.{operands_fit}
use Rattle.rv_isa.specs.Table.{form_of, is_match, operations}
use Rattle.rv_isa.specs.declared.instr.Instr.{Instr}
use Rattle.rv_isa.specs.declared.op.Op.{Op}

-- the operation whose row the word matches, the first in the table's order and by its laws the only one
unfoldable pub op_at : ℕ → Option Op
op_at word = find (is_match word) operations

-- the operation with a word's operands in its format
abbrev pub with_operands : Op → ℕ → Instr
with_operands op word = record {
  op = op;
  rd = (operands_of (form_of op) word).rd;
  rs1 = (operands_of (form_of op) word).rs1;
  rs2 = (operands_of (form_of op) word).rs2;
  imm = (operands_of (form_of op) word).imm;
  aq = (operands_of (form_of op) word).aq;
  rl = (operands_of (form_of op) word).rl;
  in_range = operands_fit (form_of op) word;
}

-- the instruction that a word is, or none where it is illegal
abbrev pub decoded : ℕ → Option Instr
decoded word = option_map (λ op. with_operands op word) (op_at word)
