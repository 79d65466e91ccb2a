-- The fences that a release and an acquire are compiled with: one in front of the store, one behind the load. (RISC-V
-- Unprivileged ISA, "Memory Ordering Instructions"; "Code Porting and Mapping Guidelines".) Compilers put other words
-- between.
use Rattle.std.specs.Prelude.{ℕ, ◌/◌, ◌%◌, Bool, true, false, not, ◌==◌, ◌&&◌, ◌||◌, bit_and, if◌then◌else◌, Option, Some, None, option_and_then, List, [], ◌∷◌, take}
use Rattle.std.specs.Option.{option_map_or}
use Rattle.rv_elf.specs.Contents.{Contents}
use Rattle.rv_hart.specs.Arithmetic.{plus, minus, word}
use Rattle.rv_isa.specs.Shape.{shape_of}
use Rattle.rv_isa.specs.declared.instr.Instr.{Instr}
use Rattle.rv_isa.specs.declared.op.Op.{Op}
use Rattle.rv_isa.specs.declared.op.Op.TheVariants.{Fence, Jal, Jalr, Beq, Bne, Blt, Bge, Bltu, Bgeu, Ecall, Ebreak}
use Rattle.rv_isa.specs.declared.shape.Shape.{Shape}
use Rattle.rv_isa.specs.declared.shape.Shape.TheVariants.{PlainLoad, PlainStore, Lr, Sc, Amo}
use Rattle.rv_prune.specs.Code.{instruction_at}
use Rattle.rv_prune.specs.declared.fences.Between.{Between}
use Rattle.rv_prune.specs.declared.fences.Between.TheVariants.{Anything, NoWrite, NoRead}

-- ---- fences

abbrev pub is_fence : Op → Bool
is_fence Fence = true
is_fence _ = false

-- after it another word than the next may come: a branch, a jump, ECALL or EBREAK
abbrev pub may_leave : Op → Bool
may_leave Jal = true
may_leave Jalr = true
may_leave Beq = true
may_leave Bne = true
may_leave Blt = true
may_leave Bge = true
may_leave Bltu = true
may_leave Bgeu = true
may_leave Ecall = true
may_leave Ebreak = true
may_leave _ = false

-- FENCE's immediate is fm, pred and succ, four bits each; of pred and succ bit 1 is R and bit 0 is W. A normal fence
-- has fm 0 and FENCE.TSO fm 8.
abbrev pub is_normal : Instr → Bool
is_normal fence = (word fence.imm / 256 == 0) || (word fence.imm / 256 == 8)

-- the fence has those bits of pred and succ
abbrev pub has_order : ℕ → Instr → Bool
has_order bits fence = (bit_and (word fence.imm) bits == bits) && is_normal fence

-- reads and writes are before it, writes behind it: what a release puts in front of its store
abbrev pub orders_a_store : Instr → Bool
orders_a_store fence = has_order 0x031 fence

-- reads are before it, reads and writes behind it: what an acquire puts behind its load
abbrev pub orders_a_load : Instr → Bool
orders_a_load fence = has_order 0x023 fence

-- PAUSE, a hint: writes are before it, and nothing is behind it
abbrev pub is_pause : Instr → Bool
is_pause i = is_fence i.op && is_normal i && (word i.imm % 256 == 0x010)

abbrev pub is_order : Instr → Bool
is_order i = is_fence i.op && not (is_pause i)

-- ---- the fence in front of a store, and behind a load

abbrev pub writes : Shape → Bool
writes (PlainStore size) = true
writes Sc = true
writes Amo = true
writes _ = false

abbrev pub reads : Shape → Bool
reads (PlainLoad size) = true
reads Lr = true
reads Amo = true
reads _ = false

-- whether a fence is sought past an access of such a shape
abbrev pub is_passed : Between → Shape → Bool
is_passed Anything shape = true
is_passed NoWrite shape = not (writes shape)
is_passed NoRead shape = not (reads shape)

-- a fence, or past a word that goes on to its neighbour what comes farther away
abbrev pub fence_or : Between → Option Instr → Instr → Option Instr
fence_or between farther i = if is_order i then Some i else (if not (may_leave i.op) && is_passed between (shape_of i.op) then farther else None)

-- the nearest fence among words at these addresses, the nearest first; none behind a word that is no instruction
abbrev pub nearest_fence : Between → Contents → List ℕ → Option Instr
nearest_fence between image [] = None
nearest_fence between image (address ∷ farther) = option_and_then (fence_or between (nearest_fence between image farther)) (instruction_at image address)

-- the sixteen words in front of an address, the nearest first; and behind it
unfoldable pub words_before : ℕ → List ℕ
words_before pc =
    minus pc 4 ∷ minus pc 8 ∷ minus pc 12 ∷ minus pc 16 ∷ minus pc 20 ∷ minus pc 24 ∷ minus pc 28 ∷ minus pc 32
    ∷ minus pc 36 ∷ minus pc 40 ∷ minus pc 44 ∷ minus pc 48 ∷ minus pc 52 ∷ minus pc 56 ∷ minus pc 60 ∷ minus pc 64 ∷ []

unfoldable pub words_after : ℕ → List ℕ
words_after pc =
    plus pc 4 ∷ plus pc 8 ∷ plus pc 12 ∷ plus pc 16 ∷ plus pc 20 ∷ plus pc 24 ∷ plus pc 28 ∷ plus pc 32
    ∷ plus pc 36 ∷ plus pc 40 ∷ plus pc 44 ∷ plus pc 48 ∷ plus pc 52 ∷ plus pc 56 ∷ plus pc 60 ∷ plus pc 64 ∷ []

-- The nearest fence is a release's: among the four words in front, or among the sixteen if none between writes.
abbrev pub is_release : Contents → ℕ → Bool
is_release image pc =
    option_map_or orders_a_store (nearest_fence Anything image (take 4 (words_before pc))) false
    || option_map_or orders_a_store (nearest_fence NoWrite image (words_before pc)) false

-- The nearest fence is an acquire's: among the four words behind, or among the sixteen if none between reads.
abbrev pub is_acquire : Contents → ℕ → Bool
is_acquire image pc =
    option_map_or orders_a_load (nearest_fence Anything image (take 4 (words_after pc))) false
    || option_map_or orders_a_load (nearest_fence NoRead image (words_after pc)) false
