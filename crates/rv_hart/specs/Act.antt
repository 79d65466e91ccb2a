-- What each operation does with the registers and the pc, before its access is tested.
use Rattle.std.specs.Prelude.{ℕ, pos, ◌-◌, ◌%◌, ◌*ℤ◌, Bool, true, false, not, ◌==◌, nat_lt, if◌then◌else◌, bit_and, bit_or, bit_xor}
use Rattle.rv_hart.specs.Registers.{get}
use Rattle.rv_hart.specs.Arithmetic.{plus, minus, word, integer, flag, less_signed, shift_left, shift_right, shift_right_signed, low_half, high_half, quotient, quotient_signed, remainder, remainder_signed}
use Rattle.rv_hart.specs.declared.action.Action.{Action}
use Rattle.rv_hart.specs.declared.action.Action.TheVariants.{Trap, Set, Load, Store, Reserve, Conditional, Replace, Print, Exit}
use Rattle.rv_hart.specs.declared.action.Combine.{Combine}
use Rattle.rv_hart.specs.declared.action.Combine.TheVariants as combine
use Rattle.rv_hart.specs.declared.hart.Cause.TheVariants.{TargetMisaligned, Breakpoint, UnknownCall}
use Rattle.rv_hart.specs.declared.hart.Hart.{Hart}
use Rattle.rv_isa.specs.declared.instr.Instr.{Instr}
use Rattle.rv_isa.specs.declared.op.Op.{Op}
use Rattle.rv_isa.specs.declared.op.Op.TheVariants.{Lui, Auipc, Jal, Jalr, Beq, Bne, Blt, Bge, Bltu, Bgeu, Lb, Lh, Lw, Lbu, Lhu, Sb, Sh, Sw, Addi, Slti, Sltiu, Xori, Ori, Andi, Slli, Srli, Srai, Add, Sub, Sll, Slt, Sltu, Xor, Srl, Sra, Or, And, Fence, Ecall, Ebreak, Mul, Mulh, Mulhsu, Mulhu, Div, Divu, Rem, Remu, LrW, ScW, AmoswapW, AmoaddW, AmoxorW, AmoandW, AmoorW, AmominW, AmomaxW, AmominuW, AmomaxuW}

-- the address of the following word
abbrev pub following : Hart → ℕ
following hart = plus hart.pc 4

-- the source registers' values, and the immediate as a word
abbrev pub source_1 : Instr → Hart → ℕ
source_1 i hart = get hart.registers i.rs1

abbrev pub source_2 : Instr → Hart → ℕ
source_2 i hart = get hart.registers i.rs2

abbrev pub immediate : Instr → ℕ
immediate i = word i.imm

-- a result for the destination register
abbrev pub result_is : Instr → Hart → ℕ → Action
result_is i hart value = Set i.rd value (following hart)

-- a jump that links: the target must be a multiple of 4
abbrev pub jump : Instr → Hart → ℕ → Action
jump i hart target = if target % 4 == 0 then Set i.rd (following hart) target else Trap TargetMisaligned

-- a branch, which writes no register: the target of one that is taken must be a multiple of 4
abbrev pub branch : Instr → Hart → Bool → Action
branch i hart taken =
    if taken then (if plus hart.pc (immediate i) % 4 == 0 then Set 0 0 (plus hart.pc (immediate i)) else Trap TargetMisaligned) else Set 0 0 (following hart)

abbrev pub address : Instr → Hart → ℕ
address i hart = plus (source_1 i hart) (immediate i)

abbrev pub replace : Instr → Hart → Combine → Action
replace i hart c = Replace i.rd (source_1 i hart) c (source_2 i hart)

-- The environment calls (this project's own): x17 says which, 93 to exit with code x10, 1 to print
-- the low byte of x10.
abbrev pub environment_call : Hart → Action
environment_call hart =
    if get hart.registers 17 == 93 then Exit (get hart.registers 10)
    else (if get hart.registers 17 == 1 then Print (get hart.registers 10 % 256) else Trap UnknownCall)

-- What each operation does, before its access is tested. (RISC-V Unprivileged ISA, chapters RV32I, M and A.)
abbrev pub act : Op → Instr → Hart → Action
act Lui i hart = result_is i hart (shift_left (immediate i) 12)
act Auipc i hart = result_is i hart (plus hart.pc (shift_left (immediate i) 12))
act Jal i hart = jump i hart (plus hart.pc (immediate i))
act Jalr i hart = jump i hart (address i hart - address i hart % 2)
act Beq i hart = branch i hart (source_1 i hart == source_2 i hart)
act Bne i hart = branch i hart (not (source_1 i hart == source_2 i hart))
act Blt i hart = branch i hart (less_signed (source_1 i hart) (source_2 i hart))
act Bge i hart = branch i hart (not (less_signed (source_1 i hart) (source_2 i hart)))
act Bltu i hart = branch i hart (nat_lt (source_1 i hart) (source_2 i hart))
act Bgeu i hart = branch i hart (not (nat_lt (source_1 i hart) (source_2 i hart)))
act Lb i hart = Load i.rd (address i hart) 1 true
act Lh i hart = Load i.rd (address i hart) 2 true
act Lw i hart = Load i.rd (address i hart) 4 false
act Lbu i hart = Load i.rd (address i hart) 1 false
act Lhu i hart = Load i.rd (address i hart) 2 false
act Sb i hart = Store (address i hart) 1 (source_2 i hart)
act Sh i hart = Store (address i hart) 2 (source_2 i hart)
act Sw i hart = Store (address i hart) 4 (source_2 i hart)
act Addi i hart = result_is i hart (plus (source_1 i hart) (immediate i))
act Slti i hart = result_is i hart (flag (less_signed (source_1 i hart) (immediate i)))
act Sltiu i hart = result_is i hart (flag (nat_lt (source_1 i hart) (immediate i)))
act Xori i hart = result_is i hart (bit_xor (source_1 i hart) (immediate i))
act Ori i hart = result_is i hart (bit_or (source_1 i hart) (immediate i))
act Andi i hart = result_is i hart (bit_and (source_1 i hart) (immediate i))
act Slli i hart = result_is i hart (shift_left (source_1 i hart) (immediate i % 32))
act Srli i hart = result_is i hart (shift_right (source_1 i hart) (immediate i % 32))
act Srai i hart = result_is i hart (shift_right_signed (source_1 i hart) (immediate i % 32))
act Add i hart = result_is i hart (plus (source_1 i hart) (source_2 i hart))
act Sub i hart = result_is i hart (minus (source_1 i hart) (source_2 i hart))
act Sll i hart = result_is i hart (shift_left (source_1 i hart) (source_2 i hart % 32))
act Slt i hart = result_is i hart (flag (less_signed (source_1 i hart) (source_2 i hart)))
act Sltu i hart = result_is i hart (flag (nat_lt (source_1 i hart) (source_2 i hart)))
act Xor i hart = result_is i hart (bit_xor (source_1 i hart) (source_2 i hart))
act Srl i hart = result_is i hart (shift_right (source_1 i hart) (source_2 i hart % 32))
act Sra i hart = result_is i hart (shift_right_signed (source_1 i hart) (source_2 i hart % 32))
act Or i hart = result_is i hart (bit_or (source_1 i hart) (source_2 i hart))
act And i hart = result_is i hart (bit_and (source_1 i hart) (source_2 i hart))
act Fence i hart = Set 0 0 (following hart)
act Ecall i hart = environment_call hart
act Ebreak i hart = Trap Breakpoint
act Mul i hart = result_is i hart (low_half (integer (source_1 i hart) *ℤ integer (source_2 i hart)))
act Mulh i hart = result_is i hart (high_half (integer (source_1 i hart) *ℤ integer (source_2 i hart)))
act Mulhsu i hart = result_is i hart (high_half (integer (source_1 i hart) *ℤ pos (source_2 i hart)))
act Mulhu i hart = result_is i hart (high_half (pos (source_1 i hart) *ℤ pos (source_2 i hart)))
act Div i hart = result_is i hart (quotient_signed (source_1 i hart) (source_2 i hart))
act Divu i hart = result_is i hart (quotient (source_1 i hart) (source_2 i hart))
act Rem i hart = result_is i hart (remainder_signed (source_1 i hart) (source_2 i hart))
act Remu i hart = result_is i hart (remainder (source_1 i hart) (source_2 i hart))
act LrW i hart = Reserve i.rd (source_1 i hart)
act ScW i hart = Conditional i.rd (source_1 i hart) (source_2 i hart)
act AmoswapW i hart = replace i hart combine.Swap
act AmoaddW i hart = replace i hart combine.Add
act AmoxorW i hart = replace i hart combine.Xor
act AmoandW i hart = replace i hart combine.And
act AmoorW i hart = replace i hart combine.Or
act AmominW i hart = replace i hart combine.Min
act AmomaxW i hart = replace i hart combine.Max
act AmominuW i hart = replace i hart combine.MinUnsigned
act AmomaxuW i hart = replace i hart combine.MaxUnsigned

abbrev pub action_of : Instr → Hart → Action
action_of i hart = act i.op i hart
