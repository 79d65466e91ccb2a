-- The sites of an image: the addresses at which a hart may be paused.
use Rattle.std.specs.Prelude.{ℕ, ◌+◌, ◌%◌, ◌^◌, ◌==◌, ◌&&◌, Bool, not, nat_le, Option, List, [], ◌∷◌, length, slice_get, filter}
use Rattle.std.specs.List.{list_any, range_with_len}
use Rattle.rv_elf.specs.Contents.{Contents}
use Rattle.rv_hart.specs.NextAccess.{is_plain_op}
use Rattle.rv_isa.specs.Decoded.{op_at}
use Rattle.rv_memory.specs.Extent.{Extent}
use Rattle.rv_memory.specs.Memory.{load}

-- The segment may be executed, the whole word at the address lies within its bytes of the file, and the
-- word is a plain load or store.
unfoldable pub has_plain : Extent → ℕ → Bool
has_plain segment address =
    segment.x && nat_le segment.start address && nat_le (address + 4) (segment.start + length segment.bytes) && is_plain_op (op_at (load (segment ∷ []) address 4))

-- The address is a multiple of 4, one of the segments has a plain load or store there, and it is not one of
-- the excluded addresses.
unfoldable pub is_site : List Extent → List ℕ → ℕ → Bool
is_site segments excluded address =
    address % 4 == 0 && list_any (λ segment. has_plain segment address) segments && not (list_any (λ other. other == address) excluded)

-- the sites among so many addresses from one on, in ascending order
unfoldable pub sites_among : List Extent → List ℕ → ℕ → ℕ → List ℕ
sites_among segments excluded first count = filter (is_site segments excluded) (range_with_len first count)

-- the sites among all addresses
unfoldable pub sites : Contents → List ℕ → List ℕ
sites image excluded = sites_among image.segments excluded 0 (2 ^ 32)

-- the site that a word picks: the one at index word modulo the count, or none where there is no site
abbrev pub picked : List ℕ → ℕ → Option ℕ
picked sites word = slice_get sites (word % length sites)
