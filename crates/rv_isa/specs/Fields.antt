-- The fields and the immediates of the base instruction formats.
use Rattle.std.specs.Prelude.{ℕ, ℤ, ◌+◌, ◌-◌, ◌*◌, ◌/◌, ◌%◌, ◌^◌, Bool, ◌==◌, nat_lt, if◌then◌else◌, pos, ◌-ℤ◌}

-- the `width` bits of a word from bit `low` up
abbrev pub field : ℕ → ℕ → ℕ → ℕ
field low width word = word / 2 ^ low % 2 ^ width

abbrev pub bit : ℕ → ℕ → Bool
bit low word = field low 1 word == 1

-- The fields of the base instruction formats. (RISC-V Unprivileged ISA, "Base Instruction Formats".)
abbrev pub opcode : ℕ → ℕ
opcode = field 0 7

abbrev pub rd : ℕ → ℕ
rd = field 7 5

abbrev pub funct3 : ℕ → ℕ
funct3 = field 12 3

abbrev pub rs1 : ℕ → ℕ
rs1 = field 15 5

abbrev pub rs2 : ℕ → ℕ
rs2 = field 20 5

abbrev pub funct7 : ℕ → ℕ
funct7 = field 25 7

-- the ordering bits of the atomics
abbrev pub aq : ℕ → Bool
aq = bit 26

abbrev pub rl : ℕ → Bool
rl = bit 25

-- the number that `width` bits stand for in two's complement
abbrev pub signed : ℕ → ℕ → ℤ
signed width bits = if nat_lt bits (2 ^ (width - 1)) then pos bits else pos bits -ℤ pos (2 ^ width)

-- The immediates. (RISC-V Unprivileged ISA, "Immediate Encoding Variants".)
abbrev pub immediate_i : ℕ → ℤ
immediate_i w = signed 12 (field 20 12 w)

abbrev pub immediate_s : ℕ → ℤ
immediate_s w = signed 12 (field 25 7 w * 2 ^ 5 + field 7 5 w)

abbrev pub immediate_b : ℕ → ℤ
immediate_b w = signed 13 (field 31 1 w * 2 ^ 12 + field 7 1 w * 2 ^ 11 + field 25 6 w * 2 ^ 5 + field 8 4 w * 2)

abbrev pub immediate_u : ℕ → ℤ
immediate_u w = pos (field 12 20 w)

abbrev pub immediate_j : ℕ → ℤ
immediate_j w = signed 21 (field 31 1 w * 2 ^ 20 + field 12 8 w * 2 ^ 12 + field 20 1 w * 2 ^ 11 + field 21 10 w * 2)

-- a shift's amount, and FENCE's fm, pred and succ
abbrev pub immediate_shift : ℕ → ℤ
immediate_shift w = pos (field 20 5 w)

abbrev pub immediate_fence : ℕ → ℤ
immediate_fence w = pos (field 20 12 w)
