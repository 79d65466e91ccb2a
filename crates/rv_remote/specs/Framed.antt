-- The packets that are written.
use Rattle.std.specs.Prelude.{ℕ, ◌%◌, List, ◌++◌, codes, sum}
use Rattle.rv_text.specs.Hexadecimal.{byte_digits}

-- A packet is `$`, its data, `#` and two digits, the sum of the data modulo 256. (GDB's manual, "Overview" of the
-- Remote Serial Protocol.)
abbrev pub packet_of : List ℕ → List ℕ
packet_of bytes = codes "$" ++ bytes ++ codes "#" ++ byte_digits (sum bytes % 256)
