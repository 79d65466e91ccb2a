-- What an image was built with, by the flags of its file's header.
use Rattle.std.specs.Prelude.{ℕ, ◌/◌, ◌%◌, ◌==◌, not, List, slice_get}
use Rattle.std.specs.Option.{option_map_or}
use Rattle.rv_engines.specs.declared.built.Built.{Built}

-- the lowest byte of the flags, which stand at byte 36 of an ELF32 header
abbrev pub flags_of : List ℕ → ℕ
flags_of bytes = option_map_or (λ (byte : ℕ). byte) (slice_get bytes 36) 0

-- Bit 0 says that there are compressed instructions, and bits 1 and 2 in which registers floating-point arguments are passed, 0 in none
-- (RISC-V ELF psABI, "File Header").
abbrev pub built_of : List ℕ → Built
built_of bytes = record { compressed = flags_of bytes % 2 == 1; floating = not (flags_of bytes / 2 % 4 == 0) }
