-- What is counted over many runs.
use Rattle.std.specs.Prelude.{ℕ, ◌-◌, ◌^◌, min}

-- a count stays at the largest number of 64 bits once there
abbrev pub saturated : ℕ → ℕ
saturated count = min count (2 ^ 64 - 1)
