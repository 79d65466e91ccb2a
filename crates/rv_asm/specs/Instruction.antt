-- The instructions that a statement stands for, from its operation and its operands.
use Rattle.std.specs.Prelude.{◌≡◌, ℕ, ℤ, pos, ◌+◌, ◌-◌, ◌/◌, ◌%◌, ◌^◌, Bool, true, false, Result, Ok, Err, refl}
use Rattle.rv_isa.specs.Fields.{signed}
use Rattle.rv_isa.specs.Operands.{are_operands}
use Rattle.rv_isa.specs.Table.{form_of}
use Rattle.rv_isa.specs.declared.instr.Instr.{Instr}
use Rattle.rv_isa.specs.declared.op.Op.{Op}
use Rattle.rv_isa.specs.declared.op.Op.TheVariants.{Lui, Addi}
use Rattle.rv_isa.specs.declared.operands.Operands.{Operands}
use Rattle.rv_memory.specs.Chain.{◌>>=◌}
use Rattle.rv_asm.specs.declared.statement.AsmKind.{AsmKind}
use Rattle.rv_asm.specs.declared.statement.AsmKind.TheVariants.{Range}

-- Instructions from their operands.

-- the operands of an instruction without ordering bits
abbrev pub fields : ℕ → ℕ → ℕ → ℤ → Operands
fields rd rs1 rs2 imm = record { rd = rd; rs1 = rs1; rs2 = rs2; imm = imm; aq = false; rl = false }

abbrev pub when_in_range : (op : Op) (o : Operands) (fits : Bool) → are_operands (form_of op) o ≡ fits → Result Instr AsmKind
when_in_range op o true fits =
    Ok (record { op = op; rd = o.rd; rs1 = o.rs1; rs2 = o.rs2; imm = o.imm; aq = o.aq; rl = o.rl; in_range = fits })
when_in_range op o false fits = Err Range

-- the instruction with these operands, where they are in the range of its format
unfoldable pub instruction : Op → Operands → Result Instr AsmKind
instruction op o = when_in_range op o (are_operands (form_of op) o) refl

-- how far a target is from an address, modulo 2^32 and read as signed
abbrev pub distance : ℕ → ℕ → ℤ
distance address target = signed 32 ((target + (2 ^ 32 - address)) % 2 ^ 32)

-- what LUI loads of 32 bits, the upper 20 rounded to the nearest, and what ADDI adds, the low 12 sign-extended
abbrev pub upper_part : ℕ → ℤ
upper_part bits = pos ((bits + 0x800) % 2 ^ 32 / 2 ^ 12)

abbrev pub lower_part : ℕ → ℤ
lower_part bits = signed 12 (bits % 2 ^ 12)

-- the two instructions that load 32 bits
abbrev pub load_pair : ℕ → ℕ → Result (Instr × Instr) AsmKind
load_pair rd bits = do
  upper ← instruction Lui (fields rd 0 0 (upper_part bits))
  lower ← instruction Addi (fields rd rd 0 (lower_part bits))
  Ok (upper, lower)
