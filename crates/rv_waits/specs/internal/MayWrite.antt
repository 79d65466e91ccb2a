use Rattle.std.specs.Prelude.{ℕ, Bool, ◌==◌, bit_and}

-- the bits of the opcode that the opcodes STORE and AMO share, and no other has
abbrev pub may_write : ℕ → Bool
may_write word = bit_and word 0x70 == 0x20
