-- A range of addresses with its bytes and its permissions.
use Rattle.std.specs.Prelude.{◌≡◌, ℕ, ◌+◌, ◌-◌, ◌≤◌, Bool, List, [], ◌++◌, length, replicate}

-- A stretch of addresses from `start` on, `len` bytes long: `bytes`, then zeros. `r`, `w` and `x` say
-- whether it may be read, written and executed.
pub record Extent : Type 0 where
  pub start : ℕ
  pub bytes : List ℕ
  pub len : ℕ
  pub r : Bool
  pub w : Bool
  pub x : Bool

-- what a caller sees to: an extent has a byte, and no more bytes given than it is long
pub record IsExtent (e : Extent) : Type 0 where
  pub some : 1 ≤ e.len
  pub within : length e.bytes ≤ e.len

-- one past the last address: a number up to 2 ^ 32, which does not wrap
abbrev pub end_of : Extent → ℕ
end_of e = e.start + e.len

-- the same extent with its zeros written out
abbrev pub filled : Extent → Extent
filled e = record e { bytes = e.bytes ++ replicate (e.len - length e.bytes) 0 }

-- an extent with all of its bytes, of which it has some
pub record IsFull (e : Extent) : Type 0 where
  pub some : 1 ≤ e.len
  pub whole : length e.bytes ≡ e.len

-- the addresses and permissions of an extent, without its bytes
abbrev pub span : Extent → Extent
span e = record e { bytes = [] }
