-- What the contracts of the private functions of a store of pages cite.
use Rattle.std.specs.Prelude.{◌≡◌, ℕ, ◌+◌, ◌-◌, ◌%◌, ◌≤◌, Bool, true, false, ◌&&◌, List, ◌++◌, length, replicate, drop}
use Rattle.std.specs.List.{list_any}
use Rattle.rv_memory.specs.Extent.{Extent}
use Rattle.rv_memory.specs.Memory.{holds, allows}
use Rattle.rv_memory.specs.Pages.{KeptPage, PagedExtent, bytes_of, extent, place_of}
use Rattle.rv_memory.specs.declared.store.Need.{Need}
use Rattle.rv_memory.specs.declared.paged.page.Kept.{Kept}
use Rattle.rv_memory.specs.declared.paged.page.Kept.TheVariants.{Own, Shared}
use Rattle.rv_memory.specs.declared.paged.page.TheConstants.{PAGE_SIZE}

-- a page as its variant keeps it
abbrev pub kept_page : Kept → KeptPage
kept_page (Own bytes) = record { bytes = bytes.value; own = true }
kept_page (Shared bytes) = record { bytes = bytes.value; own = false }

-- a page has all of its bytes
abbrev pub IsPage : KeptPage → Type 0
IsPage p = length p.bytes ≡ PAGE_SIZE

-- `size` bytes from `address` on lie in an extent that has the permissions needed
abbrev pub permits_in : List PagedExtent → ℕ → ℕ → Need → Bool
permits_in ts address size need = list_any (λ t. holds (extent t) address size && allows (extent t) need) ts

-- no extent before the place permits the access
abbrev pub SkipsIn : List PagedExtent → ℕ → ℕ → ℕ → Need → Type 0
SkipsIn ts place address size need = permits_in (drop place ts) address size need ≡ permits_in ts address size need

-- how many bytes make whole pages with those that there are
abbrev pub missing : ℕ → ℕ
missing count = (PAGE_SIZE - count % PAGE_SIZE) % PAGE_SIZE

-- an extent's bytes with zeros before and after them, so that they are whole pages
abbrev pub padded : Extent → List ℕ
padded e = (replicate (e.start % PAGE_SIZE) 0 ++ e.bytes) ++ replicate (missing (e.start % PAGE_SIZE + length e.bytes)) 0

-- the bytes from an address on begin in the extent, and stand within its pages
pub record LieIn (t : PagedExtent) (address size : ℕ) : Type 0 where
  pub start : t.start ≤ address
  pub within : place_of t address + size ≤ length (bytes_of t.pages)
