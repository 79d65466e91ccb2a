-- Memory kept in pages: what a store of pages holds as memory, and which of its bytes are ready to be stored to.
use Rattle.std.specs.Prelude.{ℕ, ◌+◌, ◌-◌, ◌/◌, ◌%◌, ◌≤◌, ◌<◌, Bool, false, List, All, IsTrue, map, take, drop, slice_index_or}
use Rattle.std.specs.List.{flat_map}
use Rattle.rv_memory.specs.Extent.{Extent}
use Rattle.rv_memory.specs.Memory.{Memory, holds}
use Rattle.rv_memory.specs.declared.paged.page.TheConstants.{PAGE_SIZE}

-- a page: its bytes, and whether they are the store's own or shared with others
pub record KeptPage : Type 0 where
  pub bytes : List ℕ
  pub own : Bool

-- an extent kept in pages, of which the first holds its first byte. They stand at multiples of a page's
-- size, so the first and the last may have bytes that are not the extent's.
pub record PagedExtent : Type 0 where
  pub start : ℕ
  pub pages : List KeptPage
  pub len : ℕ
  pub r : Bool
  pub w : Bool
  pub x : Bool

-- the bytes of pages, one after another
abbrev pub bytes_of : List KeptPage → List ℕ
bytes_of = flat_map (λ p. p.bytes)

-- how many bytes of the first page stand before the extent
abbrev pub gap : PagedExtent → ℕ
gap t = t.start % PAGE_SIZE

-- the extent itself
abbrev pub extent : PagedExtent → Extent
extent t = record { start = t.start; bytes = take t.len (drop (gap t) (bytes_of t.pages)); len = t.len; r = t.r; w = t.w; x = t.x }

abbrev pub memory_in : List PagedExtent → Memory
memory_in = map extent

-- where the byte of an address stands in its extent's pages
abbrev pub place_of : PagedExtent → ℕ → ℕ
place_of t address = (address - t.start) + gap t

-- the page at a place is the store's own
abbrev pub is_own : List KeptPage → ℕ → Bool
is_own pages place = slice_index_or (map (λ p. p.own) pages) place false

-- each of `size` bytes from a place on stands in a page of the store's own
abbrev pub AreOwn : List KeptPage → ℕ → ℕ → Type 0
AreOwn pages at size = (byte : ℕ) → at ≤ byte → byte < at + size → IsTrue (is_own pages (byte / PAGE_SIZE))

-- wherever the bytes lie, no page of theirs is shared
abbrev pub IsReady : List PagedExtent → ℕ → ℕ → Type 0
IsReady ts address size = All (λ t. IsTrue (holds (extent t) address size) → AreOwn t.pages (place_of t address) size) ts
