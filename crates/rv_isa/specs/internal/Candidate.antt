use Rattle.std.specs.Prelude.{ℕ, List, ◌==◌, ◌&&◌, not, slice_index_or, if◌then◌else◌}
use Rattle.rv_isa.specs.Fields.{field, opcode, funct3, funct7, rs2}
use Rattle.rv_isa.specs.declared.op.Op.{Op}
use Rattle.rv_isa.specs.declared.op.Op.TheVariants.{Lui, Auipc, Jal, Jalr, Fence, Ecall, Ebreak}
use Rattle.rv_isa.specs.declared.op.TheConstants.{LOADS, STORES, BRANCHES, IMMEDIATES, IMMEDIATES_ELSE, REGISTERS, PRODUCTS, REGISTERS_ELSE, ATOMICS}

-- The one operation whose row a word may have, found by opcode, funct3, funct7, funct5 and rs2. That no
-- other row matches is the contract of the code's `candidate`.

abbrev pub at : List Op → ℕ → Op
at operations n = slice_index_or operations n Lui

abbrev pub immediate : ℕ → ℕ → Op
immediate f3 f7 = if f3 == 5 && not (f7 == 0) then at IMMEDIATES_ELSE f3 else at IMMEDIATES f3

abbrev pub register : ℕ → ℕ → Op
register f3 f7 = if f7 == 0 then at REGISTERS f3 else (if f7 == 1 then at PRODUCTS f3 else at REGISTERS_ELSE f3)

abbrev pub atomic : ℕ → Op
atomic f5 = at ATOMICS f5

abbrev pub system : ℕ → Op
system source = if source == 0 then Ecall else Ebreak

abbrev pub by_fields : ℕ → ℕ → ℕ → ℕ → ℕ → Op
by_fields code f3 f7 f5 source =
    if code == 0x03 then at LOADS f3
    else (if code == 0x0f then Fence
    else (if code == 0x13 then immediate f3 f7
    else (if code == 0x17 then Auipc
    else (if code == 0x23 then at STORES f3
    else (if code == 0x2f then atomic f5
    else (if code == 0x33 then register f3 f7
    else (if code == 0x37 then Lui
    else (if code == 0x63 then at BRANCHES f3
    else (if code == 0x67 then Jalr
    else (if code == 0x6f then Jal
    else system source))))))))))

unfoldable pub candidate : ℕ → Op
candidate word = by_fields (opcode word) (funct3 word) (funct7 word) (field 27 5 word) (rs2 word)
