-- One of so many equal parts of 2^64, rounded up; 0 is the whole, modulo 2^64.
use Rattle.std.specs.Prelude.{ℕ, ◌+◌, ◌-◌, ◌/◌, ◌%◌, ◌^◌}

unfoldable pub part_of : ℕ → ℕ
part_of count = ((2 ^ 64 - 1) / count + 1) % 2 ^ 64
