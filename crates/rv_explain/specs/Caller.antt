-- Which return address a block shows of a hart at an instruction.
use Rattle.std.specs.Prelude.{ℕ, ◌%◌, Bool, false, not, ◌==◌, ◌&&◌, if◌then◌else◌, Option, Some, None, option_and_then, slice_get}
use Rattle.std.specs.List.{list_any}
use Rattle.std.specs.Option.{option_map_or}
use Rattle.rv_debug.specs.Answers.{word_at}
use Rattle.rv_elf.specs.Contents.{Contents, Named}
use Rattle.rv_explain.specs.Frame.{frame_at, is_jump}
use Rattle.rv_hart.specs.Arithmetic.{minus, plus}
use Rattle.rv_hart.specs.Registers.{get}
use Rattle.rv_hart.specs.State.{State}
use Rattle.rv_hart.specs.declared.hart.Hart.{Hart}
use Rattle.rv_isa.specs.declared.instr.Instr.{Instr}
use Rattle.rv_memory.specs.Memory.{Memory}
use Rattle.rv_prune.specs.Code.{instruction_at}
use Rattle.rv_symbols.specs.Symbols.{is_inside, symbol_of}

-- a segment that may be executed holds the address
abbrev pub is_code : Contents → ℕ → Bool
is_code image address = list_any (λ segment. segment.x && is_inside address segment) image.segments

-- JAL or JALR that leaves its return address in x1
abbrev pub is_call : Instr → Bool
is_call i = is_jump i.op && (i.rd == 1)

-- a call stands in front of the address
abbrev pub follows_call : Contents → ℕ → Bool
follows_call image address = option_map_or is_call (instruction_at image (minus address 4)) false

-- both have a symbol, with one value
abbrev pub have_one_value : Option Named → Option Named → Bool
have_one_value (Some one) (Some other) = one.value == other.value
have_one_value _ _ = false

-- both are told by one symbol
abbrev pub are_told_by_one : Contents → ℕ → ℕ → Bool
are_told_by_one image one other = have_one_value (symbol_of image one) (symbol_of image other)

-- a call may have left it
abbrev pub is_return : Contents → ℕ → Bool
is_return image address = (address % 4 == 0) && is_code image address && follows_call image address

-- the return address in the frame of the function at pc
abbrev pub stored_return : Contents → Memory → ℕ → ℕ → Option ℕ
stored_return image m pc x2 =
    option_and_then (λ address. if is_return image address then Some address else None) (option_and_then (λ frame. word_at m (plus x2 frame.slot)) (frame_at image pc))

-- What x1 holds. Where that is behind a call in the function itself, the call has returned, and where the function returns
-- to is in its frame.
abbrev pub caller_by : Contents → Memory → ℕ → ℕ → ℕ → Option ℕ
caller_by image m pc x1 x2 =
    if not (is_code image x1) then None
    else (if not (are_told_by_one image pc x1) then Some x1
    else (if follows_call image x1 then stored_return image m pc x2 else None))

abbrev pub caller_of : Contents → Memory → ℕ → Hart → Option ℕ
caller_of image m pc hart = caller_by image m pc (get hart.registers 1) (get hart.registers 2)

-- of hart h, at the instruction at pc
unfoldable pub caller_in : Contents → ℕ → ℕ → State → Option ℕ
caller_in image h pc s = option_and_then (caller_of image s.memory pc) (slice_get s.harts h)
