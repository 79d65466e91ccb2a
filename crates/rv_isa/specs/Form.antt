-- The formats: which bits are fixed in each, and which fields it has.
use Rattle.std.specs.Prelude.{ℕ, Bool, true, false}
use Rattle.rv_isa.specs.declared.form.Form.{Form}
use Rattle.rv_isa.specs.declared.form.Form.TheVariants.{R, I, S, B, U, J, Shift, Fence, Plain, Lr, Amo}

-- The bits of a word that are fixed in a format. (RISC-V Unprivileged ISA, instruction listings.)
abbrev pub mask_of : Form → ℕ
mask_of U = 0x0000007f  -- opcode
mask_of J = 0x0000007f
mask_of I = 0x0000707f  -- funct3, opcode
mask_of S = 0x0000707f
mask_of B = 0x0000707f
mask_of Fence = 0x0000707f
mask_of Shift = 0xfe00707f  -- funct7, funct3, opcode
mask_of R = 0xfe00707f
mask_of Plain = 0xffffffff  -- all
mask_of Lr = 0xf9f0707f  -- funct5, rs2, funct3, opcode
mask_of Amo = 0xf800707f  -- funct5, funct3, opcode

-- which fields a format has beside its fixed bits and its immediate
abbrev pub has_rd : Form → Bool
has_rd R = true
has_rd I = true
has_rd S = false
has_rd B = false
has_rd U = true
has_rd J = true
has_rd Shift = true
has_rd Fence = true
has_rd Plain = false
has_rd Lr = true
has_rd Amo = true

abbrev pub has_rs1 : Form → Bool
has_rs1 R = true
has_rs1 I = true
has_rs1 S = true
has_rs1 B = true
has_rs1 U = false
has_rs1 J = false
has_rs1 Shift = true
has_rs1 Fence = true
has_rs1 Plain = false
has_rs1 Lr = true
has_rs1 Amo = true

abbrev pub has_rs2 : Form → Bool
has_rs2 R = true
has_rs2 I = false
has_rs2 S = true
has_rs2 B = true
has_rs2 U = false
has_rs2 J = false
has_rs2 Shift = false
has_rs2 Fence = false
has_rs2 Plain = false
has_rs2 Lr = false
has_rs2 Amo = true

-- aq and rl
abbrev pub has_ordering : Form → Bool
has_ordering R = false
has_ordering I = false
has_ordering S = false
has_ordering B = false
has_ordering U = false
has_ordering J = false
has_ordering Shift = false
has_ordering Fence = false
has_ordering Plain = false
has_ordering Lr = true
has_ordering Amo = true
