-- Numbers in a circle.
use Rattle.std.specs.Prelude.{◌≡◌, ℕ, ◌+◌, ◌%◌, ◌<◌}

-- each number below n is reached from any one on, before the circle is closed
abbrev pub CircleLaw : Type 0
CircleLaw = (n from h : ℕ) → h < n → (k : ℕ) × (k < n) × ((from + k) % n ≡ h)
