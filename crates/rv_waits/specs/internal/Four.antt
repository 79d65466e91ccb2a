use Rattle.std.specs.Prelude.{◌≡◌, ℕ, ◌+◌}
use Rattle.rv_memory.specs.Memory.{Memory, byte}
use Rattle.rv_waits.specs.declared.quiet.FourBytes.{FourBytes}

-- the four bytes from an address on
pub record AreBytesFrom (m : Memory) (first : ℕ) (bytes : FourBytes) : Type 0 where
  pub one : bytes.one ≡ byte m (first + 0)
  pub two : bytes.two ≡ byte m (first + 1)
  pub three : bytes.three ≡ byte m (first + 2)
  pub four : bytes.four ≡ byte m (first + 3)
