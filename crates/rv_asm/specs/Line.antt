-- The text of a word at an address in a listing.
use Rattle.std.specs.Prelude.{ℕ, ℤ, Bool, true, false, ◌+◌, ◌/◌, ◌%◌, ◌^◌, ◌==◌, ◌&&◌, nat_lt, if◌then◌else◌, Option, Some, None, List, [], ◌++◌, codes, unsigned_abs}
use Rattle.std.specs.Fmt.{decimal, signed_decimal, radix_digits}
use Rattle.std.specs.Int.{cast_unsigned, w32}
use Rattle.rv_isa.specs.Decoded.{decoded}
use Rattle.rv_isa.specs.Table.{form_of}
use Rattle.rv_isa.specs.declared.form.Form.{Form}
use Rattle.rv_isa.specs.declared.form.Form.TheVariants as form
use Rattle.rv_isa.specs.declared.instr.Instr.{Instr}
use Rattle.rv_text.specs.Hexadecimal.{word_digits}
use Rattle.rv_asm.specs.Mnemonics.{mnemonic_of, ordering_suffix, is_indexed}
use Rattle.rv_asm.specs.Registers.{number_name}

-- The line of a word at an address in a listing.

abbrev comma : List ℕ
comma = codes ", "

-- an address or a word: `0x` and eight digits
abbrev pub whole : ℕ → List ℕ
whole n = codes "0x" ++ word_digits n

-- the address that an instruction at an address names by its distance
abbrev pub target_of : ℕ → ℤ → ℕ
target_of address distance = (address + cast_unsigned w32 distance) % 2 ^ 32

-- `x1, x2, -5`
abbrev pub immediate_text : Instr → List ℕ
immediate_text i = number_name i.rd ++ (comma ++ (number_name i.rs1 ++ (comma ++ signed_decimal i.imm)))

-- `x5, -4(x6)`
abbrev pub indexed_text : ℕ → ℤ → ℕ → List ℕ
indexed_text register offset base =
    number_name register ++ (comma ++ (signed_decimal offset ++ (codes "(" ++ (number_name base ++ codes ")"))))

-- The operands of an instruction at an address, by its format. (The order is that of the RISC-V assembly
-- language: destination first, then sources; for a store the value and then its place.)
abbrev pub operands_text : Form → Instr → ℕ → List ℕ
operands_text form.R i address = number_name i.rd ++ (comma ++ (number_name i.rs1 ++ (comma ++ number_name i.rs2)))
operands_text form.Shift i address = immediate_text i
operands_text form.I i address = if is_indexed i.op then indexed_text i.rd i.imm i.rs1 else immediate_text i
operands_text form.S i address = indexed_text i.rs2 i.imm i.rs1
operands_text form.B i address = number_name i.rs1 ++ (comma ++ (number_name i.rs2 ++ (comma ++ whole (target_of address i.imm))))
operands_text form.J i address = number_name i.rd ++ (comma ++ whole (target_of address i.imm))
operands_text form.U i address = number_name i.rd ++ (codes ", 0x" ++ radix_digits 16 false (unsigned_abs i.imm))
operands_text form.Fence i address = decimal (unsigned_abs i.imm / 16) ++ (comma ++ decimal (unsigned_abs i.imm % 16))
operands_text form.Plain i address = []
operands_text form.Lr i address = number_name i.rd ++ (codes ", (" ++ (number_name i.rs1 ++ codes ")"))
operands_text form.Amo i address = number_name i.rd ++ (comma ++ (number_name i.rs2 ++ (codes ", (" ++ (number_name i.rs1 ++ codes ")"))))

-- ECALL and EBREAK have no operands
abbrev pub with_operands : Form → List ℕ → List ℕ → List ℕ
with_operands form.Plain mnemonic operands = mnemonic
with_operands _ mnemonic operands = mnemonic ++ (codes " " ++ operands)

abbrev pub instr_line : Instr → ℕ → List ℕ
instr_line i address = with_operands (form_of i.op) (mnemonic_of i.op ++ ordering_suffix i.aq i.rl) (operands_text (form_of i.op) i address)

-- the line of a word that no instruction's line says
abbrev pub word_line : ℕ → List ℕ
word_line word = codes ".word 0x" ++ word_digits word

-- the assembly language can write the instruction: of a FENCE neither fm nor rd nor rs1, which must be 0
abbrev pub is_written : Form → Instr → Bool
is_written form.Fence i = i.rd == 0 && i.rs1 == 0 && nat_lt (unsigned_abs i.imm) 256
is_written _ i = true

abbrev pub line_or_word : ℕ → ℕ → Option Instr → List ℕ
line_or_word word address None = word_line word
line_or_word word address (Some i) = if is_written (form_of i.op) i then instr_line i address else word_line word

-- the text of a word at an address
unfoldable pub line : ℕ → ℕ → List ℕ
line word address = line_or_word word address (decoded word)
