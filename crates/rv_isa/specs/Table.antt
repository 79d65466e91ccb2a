-- The instruction table: a line an operation, in the columns of the manual's listing.
use Rattle.std.specs.Prelude.{◌≡◌, ℕ, ◌+◌, ◌*◌, ◌^◌, Bool, ◌==◌, List, bit_and, codes}
use Rattle.rv_isa.specs.Form.{mask_of}
use Rattle.rv_isa.specs.declared.form.Form.{Form}
use Rattle.rv_isa.specs.declared.form.Form.TheVariants.{R, I, S, B, U, J, Shift, Fence as FenceForm, Plain, Lr, Amo}
use Rattle.rv_isa.specs.declared.op.Op.{Op}
use Rattle.rv_isa.specs.declared.op.Op.TheVariants.{Lui, Auipc, Jal, Jalr, Beq, Bne, Blt, Bge, Bltu, Bgeu, Lb, Lh, Lw, Lbu, Lhu, Sb, Sh, Sw, Addi, Slti, Sltiu, Xori, Ori, Andi, Slli, Srli, Srai, Add, Sub, Sll, Slt, Sltu, Xor, Srl, Sra, Or, And, Fence, Ecall, Ebreak, Mul, Mulh, Mulhsu, Mulhu, Div, Divu, Rem, Remu, LrW, ScW, AmoswapW, AmoaddW, AmoxorW, AmoandW, AmoorW, AmominW, AmomaxW, AmominuW, AmomaxuW}
use Rattle.rv_isa.specs.declared.op.TheConstants.{OPS}

-- The columns of fixed bits, each in its place in the word.
abbrev funct7 : ℕ → ℕ
funct7 n = n * 2 ^ 25

abbrev funct5 : ℕ → ℕ
funct5 n = n * 2 ^ 27

abbrev funct12 : ℕ → ℕ
funct12 n = n * 2 ^ 20

abbrev rs2 : ℕ → ℕ
rs2 n = n * 2 ^ 20

abbrev funct3 : ℕ → ℕ
funct3 n = n * 2 ^ 12

-- The opcodes, by their names in the manual's opcode map.
abbrev LOAD : ℕ
LOAD = 0x03

abbrev MISC_MEM : ℕ
MISC_MEM = 0x0f

abbrev OP_IMM : ℕ
OP_IMM = 0x13

abbrev AUIPC : ℕ
AUIPC = 0x17

abbrev STORE : ℕ
STORE = 0x23

abbrev AMO : ℕ
AMO = 0x2f

abbrev OP : ℕ
OP = 0x33

abbrev LUI : ℕ
LUI = 0x37

abbrev BRANCH : ℕ
BRANCH = 0x63

abbrev JALR : ℕ
JALR = 0x67

abbrev JAL : ℕ
JAL = 0x6f

abbrev SYSTEM : ℕ
SYSTEM = 0x73

-- A row: the mnemonic, the format, and the bits that are fixed in it.
pub record TableRow : Type 0 where
  pub mnemonic : List ℕ
  pub form : Form
  pub fixed : ℕ

abbrev row : List ℕ → Form → ℕ → TableRow
row name f bits = record { mnemonic = name; form = f; fixed = bits }

-- The instruction table. (RISC-V Unprivileged ISA, instruction listings of RV32I, RV32M and RV32A.)
abbrev pub row_of : Op → TableRow
row_of Lui = row (codes "lui") U LUI
row_of Auipc = row (codes "auipc") U AUIPC
row_of Jal = row (codes "jal") J JAL
row_of Jalr = row (codes "jalr") I (funct3 0 + JALR)
row_of Beq = row (codes "beq") B (funct3 0 + BRANCH)
row_of Bne = row (codes "bne") B (funct3 1 + BRANCH)
row_of Blt = row (codes "blt") B (funct3 4 + BRANCH)
row_of Bge = row (codes "bge") B (funct3 5 + BRANCH)
row_of Bltu = row (codes "bltu") B (funct3 6 + BRANCH)
row_of Bgeu = row (codes "bgeu") B (funct3 7 + BRANCH)
row_of Lb = row (codes "lb") I (funct3 0 + LOAD)
row_of Lh = row (codes "lh") I (funct3 1 + LOAD)
row_of Lw = row (codes "lw") I (funct3 2 + LOAD)
row_of Lbu = row (codes "lbu") I (funct3 4 + LOAD)
row_of Lhu = row (codes "lhu") I (funct3 5 + LOAD)
row_of Sb = row (codes "sb") S (funct3 0 + STORE)
row_of Sh = row (codes "sh") S (funct3 1 + STORE)
row_of Sw = row (codes "sw") S (funct3 2 + STORE)
row_of Addi = row (codes "addi") I (funct3 0 + OP_IMM)
row_of Slti = row (codes "slti") I (funct3 2 + OP_IMM)
row_of Sltiu = row (codes "sltiu") I (funct3 3 + OP_IMM)
row_of Xori = row (codes "xori") I (funct3 4 + OP_IMM)
row_of Ori = row (codes "ori") I (funct3 6 + OP_IMM)
row_of Andi = row (codes "andi") I (funct3 7 + OP_IMM)
row_of Slli = row (codes "slli") Shift (funct7 0x00 + funct3 1 + OP_IMM)
row_of Srli = row (codes "srli") Shift (funct7 0x00 + funct3 5 + OP_IMM)
row_of Srai = row (codes "srai") Shift (funct7 0x20 + funct3 5 + OP_IMM)
row_of Add = row (codes "add") R (funct7 0x00 + funct3 0 + OP)
row_of Sub = row (codes "sub") R (funct7 0x20 + funct3 0 + OP)
row_of Sll = row (codes "sll") R (funct7 0x00 + funct3 1 + OP)
row_of Slt = row (codes "slt") R (funct7 0x00 + funct3 2 + OP)
row_of Sltu = row (codes "sltu") R (funct7 0x00 + funct3 3 + OP)
row_of Xor = row (codes "xor") R (funct7 0x00 + funct3 4 + OP)
row_of Srl = row (codes "srl") R (funct7 0x00 + funct3 5 + OP)
row_of Sra = row (codes "sra") R (funct7 0x20 + funct3 5 + OP)
row_of Or = row (codes "or") R (funct7 0x00 + funct3 6 + OP)
row_of And = row (codes "and") R (funct7 0x00 + funct3 7 + OP)
row_of Fence = row (codes "fence") FenceForm (funct3 0 + MISC_MEM)
row_of Ecall = row (codes "ecall") Plain (funct12 0x000 + SYSTEM)
row_of Ebreak = row (codes "ebreak") Plain (funct12 0x001 + SYSTEM)
row_of Mul = row (codes "mul") R (funct7 0x01 + funct3 0 + OP)
row_of Mulh = row (codes "mulh") R (funct7 0x01 + funct3 1 + OP)
row_of Mulhsu = row (codes "mulhsu") R (funct7 0x01 + funct3 2 + OP)
row_of Mulhu = row (codes "mulhu") R (funct7 0x01 + funct3 3 + OP)
row_of Div = row (codes "div") R (funct7 0x01 + funct3 4 + OP)
row_of Divu = row (codes "divu") R (funct7 0x01 + funct3 5 + OP)
row_of Rem = row (codes "rem") R (funct7 0x01 + funct3 6 + OP)
row_of Remu = row (codes "remu") R (funct7 0x01 + funct3 7 + OP)
row_of LrW = row (codes "lr.w") Lr (funct5 0x02 + rs2 0 + funct3 2 + AMO)
row_of ScW = row (codes "sc.w") Amo (funct5 0x03 + funct3 2 + AMO)
row_of AmoswapW = row (codes "amoswap.w") Amo (funct5 0x01 + funct3 2 + AMO)
row_of AmoaddW = row (codes "amoadd.w") Amo (funct5 0x00 + funct3 2 + AMO)
row_of AmoxorW = row (codes "amoxor.w") Amo (funct5 0x04 + funct3 2 + AMO)
row_of AmoandW = row (codes "amoand.w") Amo (funct5 0x0c + funct3 2 + AMO)
row_of AmoorW = row (codes "amoor.w") Amo (funct5 0x08 + funct3 2 + AMO)
row_of AmominW = row (codes "amomin.w") Amo (funct5 0x10 + funct3 2 + AMO)
row_of AmomaxW = row (codes "amomax.w") Amo (funct5 0x14 + funct3 2 + AMO)
row_of AmominuW = row (codes "amominu.w") Amo (funct5 0x18 + funct3 2 + AMO)
row_of AmomaxuW = row (codes "amomaxu.w") Amo (funct5 0x1c + funct3 2 + AMO)

-- the operations, in the table's order
abbrev pub operations : List Op
operations = OPS

abbrev pub mnemonic_of : Op → List ℕ
mnemonic_of op = (row_of op).mnemonic

abbrev pub form_of : Op → Form
form_of op = (row_of op).form

abbrev pub match_of : Op → ℕ
match_of op = (row_of op).fixed

-- the word has the operation's fixed bits
abbrev pub Matches : ℕ → Op → Type 0
Matches word op = bit_and word (mask_of (form_of op)) ≡ match_of op

-- the same as a test
abbrev pub is_match : ℕ → Op → Bool
is_match word op = bit_and word (mask_of (form_of op)) == match_of op
