-- When two accesses conflict: some address is a byte of both, and one of them writes.
use Rattle.std.specs.Prelude.{ℕ, ◌+◌, ◌<◌, ◌≤◌, Bool, ◌&&◌, ◌||◌, nat_lt, min, max, IsTrue}
use Rattle.rv_hart.specs.declared.access.Access.{Access}

-- one past the access's last byte: a number up to 2 ^ 32, which does not wrap
abbrev pub end_of : Access → ℕ
end_of a = a.first + a.size

-- the address is one of the access's bytes
pub record Touches (a : Access) (address : ℕ) : Type 0 where
  pub from : a.first ≤ address
  pub before : address < end_of a

-- a byte of both accesses
pub record Shared (a b : Access) : Type 0 where
  pub address : ℕ
  pub of_one : Touches a address
  pub of_other : Touches b address

-- Two accesses conflict: they share a byte, and one of the two writes. (This project's own.)
pub record Conflict (a b : Access) : Type 0 where
  pub shared : Shared a b
  pub writes : IsTrue (a.write || b.write)

-- the same by their ends: both have begun before either ends
abbrev pub meets : Access → Access → Bool
meets a b = nat_lt (max a.first b.first) (min (end_of a) (end_of b))

abbrev pub conflicts : Access → Access → Bool
conflicts a b = meets a b && (a.write || b.write)
