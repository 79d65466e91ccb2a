-- The row of an instruction: the word has the fixed bits of its operation, and each of its fields.
use Rattle.std.specs.Prelude.{◌≡◌, ℕ}
use Rattle.rv_isa.specs.declared.operands.Operands.{Operands}
use Rattle.rv_isa.specs.Operands.{operands_of}
use Rattle.rv_isa.specs.Table.{Matches, form_of}
use Rattle.rv_isa.specs.declared.instr.Instr.{Instr}

-- what an instruction says beside its operation
abbrev pub operands : Instr → Operands
operands i = record { rd = i.rd; rs1 = i.rs1; rs2 = i.rs2; imm = i.imm; aq = i.aq; rl = i.rl }

-- The row of the instruction's operation matches the word, and each field of the instruction is the
-- word's field.
pub record Row (word : ℕ) (i : Instr) : Type 0 where
  pub matches : Matches word i.op
  pub operands : operands i ≡ operands_of (form_of i.op) word
