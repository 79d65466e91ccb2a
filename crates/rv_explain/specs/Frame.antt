-- The frame that a function makes on the stack, with its return address in it, as far as the words of the image's file
-- show it for certain.
use Rattle.std.specs.Prelude.{ℕ, ◌+◌, ◌-◌, ◌*◌, ◌/◌, ◌%◌, ◌^◌, Bool, true, false, not, ◌==◌, ◌&&◌, ◌||◌, nat_le, nat_lt, if◌then◌else◌, Option, Some, None, option_and_then}
use Rattle.std.specs.List.{fold, range_with_len}
use Rattle.std.specs.Option.{option_map_or}
use Rattle.rv_elf.specs.Contents.{Contents, Named}
use Rattle.rv_explain.specs.declared.frame.Frame.{Frame}
use Rattle.rv_explain.specs.declared.frame.Stage.{Stage}
use Rattle.rv_explain.specs.declared.frame.Stage.TheVariants.{Entered, Lowered, Stored, Raised, Unknown}
use Rattle.rv_hart.specs.Arithmetic.{plus, minus, word}
use Rattle.rv_isa.specs.declared.instr.Instr.{Instr}
use Rattle.rv_isa.specs.declared.op.Op.{Op}
use Rattle.rv_isa.specs.declared.op.Op.TheVariants.{Addi, Jal, Jalr, Sw}
use Rattle.rv_prune.specs.Code.{instruction_at}
use Rattle.rv_prune.specs.Fences.{may_leave}
use Rattle.rv_symbols.specs.Symbols.{symbol_of}

-- ---- instructions

abbrev pub is_addi : Op → Bool
is_addi Addi = true
is_addi _ = false

abbrev pub is_sw : Op → Bool
is_sw Sw = true
is_sw _ = false

abbrev pub is_jump : Op → Bool
is_jump Jal = true
is_jump Jalr = true
is_jump _ = false

-- `addi x2, x2, N`
abbrev pub moves_stack : Instr → Bool
moves_stack i = is_addi i.op && (i.rd == 2) && (i.rs1 == 2)

-- with N below 0
abbrev pub lowers : Instr → Bool
lowers i = moves_stack i && nat_le (2 ^ 31) (word i.imm)

-- with the N that gives up a frame of that size
abbrev pub raises : ℕ → Instr → Bool
raises size i = moves_stack i && (word i.imm == size)

-- `sw x1, N(x2)` within a frame of that size
abbrev pub stores_return : ℕ → Instr → Bool
stores_return size i = is_sw i.op && (i.rs1 == 2) && (i.rs2 == 1) && nat_le (word i.imm + 4) size

-- the hart goes elsewhere for good: a return, or a jump to another function
abbrev pub goes_away : Instr → Bool
goes_away i = is_jump i.op && (i.rd == 0)

-- the next word comes next, with the same x1 and x2
abbrev pub keeps_both : Instr → Bool
keeps_both i = not (i.rd == 1 || i.rd == 2 || may_leave i.op)

-- ---- the stages of a function, in the order of addresses

abbrev pub next_stage : Stage → Instr → Stage
next_stage Entered i = if lowers i then Lowered (minus 0 (word i.imm)) else (if keeps_both i then Entered else Unknown)
next_stage (Lowered size) i =
    if stores_return size i then Stored (record { size = size; slot = word i.imm }) else (if keeps_both i then Lowered size else Unknown)
next_stage (Stored frame) i = if raises frame.size i then Raised frame else (if i.rd == 2 then Unknown else Stored frame)
next_stage (Raised frame) i =
    if goes_away i then Stored frame else (if i.rd == 2 || may_leave i.op then Unknown else Raised frame)
next_stage Unknown i = Unknown

-- when one word more is passed; a word that is no instruction is never executed
abbrev pub with_word : Contents → ℕ → Stage → ℕ → Stage
with_word image start stage k = option_map_or (next_stage stage) (instruction_at image (plus start (4 * k))) stage

-- behind so many words of a function
unfoldable pub stage_after : Contents → ℕ → ℕ → Stage
stage_after image start words = fold (with_word image start) Entered (range_with_len 0 words)

-- ---- the frame

abbrev pub is_unknown : Stage → Bool
is_unknown Unknown = true
is_unknown _ = false

abbrev pub stored : Stage → Option Frame
stored (Stored frame) = Some frame
stored _ = None

-- the function has a size and holds the address; one of more than 65,536 bytes is not read
abbrev pub is_readable : ℕ → Named → Bool
is_readable pc f = (f.value % 4 == 0) && nat_le f.size 65536 && nat_le f.value pc && nat_lt pc (f.value + f.size)

-- the frame that stands in front of the word at pc, where all of the function's words are accounted for
abbrev pub frame_in : Contents → ℕ → Named → Option Frame
frame_in image pc f =
    if not (is_readable pc f) || is_unknown (stage_after image f.value (f.size / 4)) then None else stored (stage_after image f.value ((pc - f.value) / 4))

-- the frame that stands in front of the word at pc
unfoldable pub frame_at : Contents → ℕ → Option Frame
frame_at image pc = option_and_then (frame_in image pc) (symbol_of image pc)
