-- The rules of what a user is not shown as a race: the first row of this table that holds.
--
--   Named    the paused access touches a listed byte
--   Flag     it read a flag, and the code does not look at the bits that changed
--   Counter  it and the access that it met are each the load or the store of a counter being counted
--   Kept     none of these: the ending is shown
--
-- The instructions are those of the image's file, also where the guest has written over them since.
use Rattle.std.specs.Prelude.{ℕ, ◌+◌, ◌%◌, ◌^◌, Bool, true, false, not, ◌&&◌, ◌||◌, ◌==◌, nat_lt, if◌then◌else◌, bit_and, bit_xor, min, max, pos, List}
use Rattle.std.specs.List.{list_any}
use Rattle.std.specs.Option.{option_map_or}
use Rattle.std.specs.Ordering.{int_eq}
use Rattle.rv_collide.specs.declared.ending.Ending.{Ending}
use Rattle.rv_collide.specs.declared.ending.Verdict.{Verdict}
use Rattle.rv_collide.specs.declared.ending.Verdict.TheVariants.{Hit, Changed, Quiet}
use Rattle.rv_elf.specs.Contents.{Contents}
use Rattle.rv_hart.specs.Conflict.{end_of}
use Rattle.rv_hart.specs.Arithmetic.{plus, minus, word, extended}
use Rattle.rv_hart.specs.declared.access.Access.{Access}
use Rattle.rv_isa.specs.Shape.{shape_of}
use Rattle.rv_isa.specs.declared.instr.Instr.{Instr}
use Rattle.rv_isa.specs.declared.op.Op.{Op}
use Rattle.rv_isa.specs.declared.op.Op.TheVariants.{Lb, Lh, Lw, Lbu, Lhu, Sw, Addi, Andi}
use Rattle.rv_isa.specs.declared.shape.Shape.{Shape}
use Rattle.rv_isa.specs.declared.shape.Shape.TheVariants.{PlainLoad}
use Rattle.rv_prune.specs.Code.{instruction_at}
use Rattle.rv_prune.specs.declared.class.Class.{Class}
use Rattle.rv_prune.specs.declared.class.Class.TheVariants.{Named, Flag, Counter, Kept}

-- ---- Named: the paused access touches a listed byte

-- A range is the address of its first byte and its size. Its end is a number and does not wrap. It is touched
-- where both have begun before either ends.
abbrev pub touches : Access → ℕ × ℕ → Bool
touches access range = nat_lt (max access.first range.0) (min (end_of access) (range.0 + range.1))

unfoldable pub is_named : List (ℕ × ℕ) → Ending → Bool
is_named ranges e = list_any (touches e.access) ranges

-- ---- Flag: it read a flag, and the code does not look at the bits that changed

abbrev pub is_plain_load : ℕ → Shape → Bool
is_plain_load size (PlainLoad bytes) = bytes == size
is_plain_load size _ = false

abbrev pub is_andi : Op → Bool
is_andi Andi = true
is_andi _ = false

-- the code loads the bytes into a register, and next looks at it through a mask
abbrev pub looks_through : ℕ → Instr → Instr → Bool
looks_through size load mask = is_plain_load size (shape_of load.op) && not (load.rd == 0) && is_andi mask.op && mask.rs1 == load.rd

-- What the load's register holds where it finds these bits: sign-extended by LB and LH. (RISC-V Unprivileged
-- ISA, "Load and Store Instructions".)
abbrev pub loaded_by : Op → ℕ → ℕ
loaded_by Lb bits = extended true 1 (bits % 2 ^ 8)
loaded_by Lh bits = extended true 2 (bits % 2 ^ 16)
loaded_by Lbu bits = bits % 2 ^ 8
loaded_by Lhu bits = bits % 2 ^ 16
loaded_by _ bits = bits

-- the register's old and new values differ in no bit of the mask
abbrev pub looks_same : Instr → Instr → Ending → Bool
looks_same load mask e = bit_and (bit_xor (loaded_by load.op e.old) (loaded_by load.op e.new)) (word mask.imm) == 0

abbrev pub is_masked : Instr → Instr → Ending → Bool
is_masked load mask e = looks_through e.access.size load mask && looks_same load mask e

unfoldable pub is_flag : Contents → Ending → Bool
is_flag image e =
    e.access.read && not (e.old == e.new) && option_map_or (λ load. option_map_or (λ mask. is_masked load mask e) (instruction_at image (plus e.access.pc 4)) false) (instruction_at image e.access.pc) false

-- ---- Counter: both accesses are each the load or the store of a counter being counted

abbrev pub is_lw : Op → Bool
is_lw Lw = true
is_lw _ = false

abbrev pub is_addi : Op → Bool
is_addi Addi = true
is_addi _ = false

abbrev pub is_sw : Op → Bool
is_sw Sw = true
is_sw _ = false

-- the load and the store are of one word: `lw r, o(b)` and `sw r, o(b)`, where r is neither b nor x0
abbrev pub is_same_word : Instr → Instr → Bool
is_same_word load store =
    is_lw load.op && is_sw store.op && store.rs2 == load.rd && store.rs1 == load.rs1 && int_eq store.imm load.imm && not (load.rd == load.rs1) && not (load.rd == 0)

-- `addi r, r, n`, where n is not 0
abbrev pub counts : ℕ → Instr → Bool
counts r add = is_addi add.op && add.rd == r && add.rs1 == r && not (int_eq add.imm (pos 0))

-- `lw r, o(b)`, `addi r, r, n`, `sw r, o(b)`
abbrev pub is_triple : Instr → Instr → Instr → Bool
is_triple load add store = is_same_word load store && counts load.rd add

-- such a triple stands at an address, in three words one after another
unfoldable pub counts_at : Contents → ℕ → Bool
counts_at image address =
    option_map_or (λ load. option_map_or (λ add. option_map_or (λ store. is_triple load add store) (instruction_at image (plus address 8)) false) (instruction_at image (plus address 4)) false) (instruction_at image address) false

-- the word at an address is the first or the third of such a triple
abbrev pub is_count : Contents → ℕ → Bool
is_count image address = counts_at image address || counts_at image (minus address 8)

-- The two may be of two triples.
abbrev pub meets_count : Contents → Access → Verdict → Bool
meets_count image access (Hit seen) = is_count image access.pc && is_count image seen.access.pc
meets_count image access Changed = false
meets_count image access Quiet = false

unfoldable pub is_counter : Contents → Ending → Bool
is_counter image e = meets_count image e.access e.verdict

-- ---- the table

unfoldable pub class : Contents → Ending → List (ℕ × ℕ) → Class
class image e ranges =
    if is_named ranges e then Named
    else (if is_flag image e then Flag
    else (if is_counter image e then Counter
    else Kept))
