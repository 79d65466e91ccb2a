-- The word of an instruction: its fixed bits with each field in its place.
use Rattle.std.specs.Prelude.{ℕ, ◌+◌, ◌*◌, ◌/◌, ◌%◌, ◌^◌, if◌then◌else◌}
use Rattle.std.specs.Int.{cast_unsigned, w32}
use Rattle.rv_isa.specs.Instr.{operands}
use Rattle.rv_isa.specs.Table.{form_of, match_of}
use Rattle.rv_isa.specs.declared.instr.Instr.{Instr}
use Rattle.rv_isa.specs.declared.operands.Operands.{Operands}
use Rattle.rv_isa.specs.declared.form.Form.{Form}
use Rattle.rv_isa.specs.declared.form.Form.TheVariants.{R, I, S, B, U, J, Shift, Fence, Plain, Lr, Amo}

-- How the word of an instruction is written: each field in its place. (RISC-V Unprivileged ISA, "Base Instruction
-- Formats".) That it is the one word with the instruction's row is a law of the table.
abbrev pub register_bits : Operands → ℕ
register_bits o = o.rd * 2 ^ 7 + o.rs1 * 2 ^ 15 + o.rs2 * 2 ^ 20

abbrev pub ordering_bits : Operands → ℕ
ordering_bits o = (if o.aq then 2 ^ 26 else 0) + (if o.rl then 2 ^ 25 else 0)

-- an immediate's bits, given as two's complement, in their places
abbrev pub scattered : Form → ℕ → ℕ
scattered R bits = 0
scattered I bits = bits % 2 ^ 12 * 2 ^ 20
scattered S bits = bits / 2 ^ 5 % 2 ^ 7 * 2 ^ 25 + bits % 2 ^ 5 * 2 ^ 7
scattered B bits =
    bits / 2 ^ 12 % 2 * 2 ^ 31 + bits / 2 ^ 5 % 2 ^ 6 * 2 ^ 25 + bits / 2 % 2 ^ 4 * 2 ^ 8 + bits / 2 ^ 11 % 2 * 2 ^ 7
scattered U bits = bits % 2 ^ 20 * 2 ^ 12
scattered J bits =
    bits / 2 ^ 20 % 2 * 2 ^ 31 + bits / 2 % 2 ^ 10 * 2 ^ 21 + bits / 2 ^ 11 % 2 * 2 ^ 20 + bits / 2 ^ 12 % 2 ^ 8 * 2 ^ 12
scattered Shift bits = bits % 2 ^ 5 * 2 ^ 20
scattered Fence bits = bits % 2 ^ 12 * 2 ^ 20
scattered Plain bits = 0
scattered Lr bits = 0
scattered Amo bits = 0

-- the fixed bits with the operands in their places
abbrev pub assembled : Form → ℕ → Operands → ℕ
assembled form fixed o = (fixed + (register_bits o + ordering_bits o) + scattered form (cast_unsigned w32 o.imm)) % 2 ^ 32

-- the word of an instruction
unfoldable pub encoded : Instr → ℕ
encoded instr = assembled (form_of instr.op) (match_of instr.op) (operands instr)
