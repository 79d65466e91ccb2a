-- How the segments are scanned: each next one that may be executed, by its first address.
use Rattle.std.specs.Prelude.{◌≡◌, ℕ, ◌^◌, ◌<◌, ◌≤◌, ◌&&◌, true, nat_lt, nat_le, Option, Some, None, if◌then◌else◌, List, [], ◌∷◌}
use Rattle.rv_memory.specs.Extent.{Extent, end_of}
use Rattle.rv_sample.specs.Sites.{sites_among}

-- the segment where it may be executed, begins at the address or after it, and before the other one
abbrev pub earlier : ℕ → Extent → Option Extent → Option Extent
earlier from s None = if s.x && nat_le from s.start then Some s else None
earlier from s (Some other) = if (s.x && nat_le from s.start) && nat_lt s.start other.start then Some s else Some other

-- the segment that may be executed with the least first address from one on
abbrev pub next_code : List Extent → ℕ → Option Extent
next_code [] from = None
next_code (s ∷ rest) from = earlier from s (next_code rest from)

-- the segments that begin before an address and may be executed end there at the latest
abbrev pub ArePast : List Extent → ℕ → Type 0
ArePast [] from = Unit {0}
ArePast (s ∷ rest) from = (s.x ≡ true → s.start < from → end_of s ≤ from) × ArePast rest from

-- the sites below an address are found
pub record IsScanned (segments : List Extent) (excluded : List ℕ) (from : ℕ) (found : List ℕ) : Type 0 where
  pub past : ArePast segments from
  pub below : from ≤ 2 ^ 32
  pub is : found ≡ sites_among segments excluded 0 from
