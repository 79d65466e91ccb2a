-- The instructions of an image, as its file gives them.
use Rattle.std.specs.Prelude.{ℕ, ◌+◌, ◌-◌, ◌*◌, ◌^◌, Bool, nat_le, if◌then◌else◌, is_some, Option, Some, None, option_and_then, List, ◌∷◌, drop, find}
use Rattle.rv_elf.specs.Contents.{Contents}
use Rattle.rv_isa.specs.Decoded.{decoded}
use Rattle.rv_isa.specs.declared.instr.Instr.{Instr}
use Rattle.rv_memory.specs.Extent.{Extent}

-- the word in the first four bytes, the least significant first
abbrev pub first_word : List ℕ → Option ℕ
first_word (a ∷ b ∷ c ∷ d ∷ bytes) = Some (a + b * 2 ^ 8 + c * 2 ^ 16 + d * 2 ^ 24)
first_word _ = None

-- the word at an address, where its four bytes are file bytes of the segment
abbrev pub word_in : ℕ → Extent → Option ℕ
word_in address segment = if nat_le segment.start address then first_word (drop (address - segment.start) segment.bytes) else None

abbrev pub has_word : ℕ → Extent → Bool
has_word address segment = is_some (word_in address segment)

-- The word at an address, where its four bytes are file bytes of one segment, whatever its permissions. (No
-- two segments of an image share an address.)
unfoldable pub word_at : Contents → ℕ → Option ℕ
word_at image address = option_and_then (word_in address) (find (has_word address) image.segments)

-- the instruction that it is
unfoldable pub instruction_at : Contents → ℕ → Option Instr
instruction_at image address = option_and_then decoded (word_at image address)
