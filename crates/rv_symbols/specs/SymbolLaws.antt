-- What holds of the symbol that an address is told by.
use Rattle.std.specs.Prelude.{◌≡◌, ℕ, ◌+◌, ◌<◌, ◌≤◌, false, IsSomeAnd, Some, Contains, find}
use Rattle.rv_elf.specs.Contents.{Contents, Named}
use Rattle.rv_memory.specs.Extent.{Extent}
use Rattle.rv_symbols.specs.Symbols.{is_inside, is_mark, symbol_of}

-- A symbol of the image that is no mark. One with a size holds the address; one without stands at the address or below, in
-- the same segment.
pub record IsNameOf (image : Contents) (address : ℕ) (s : Named) : Type 0 where
  pub of_image : Contains image.symbols s
  pub no_mark : is_mark s.name ≡ false
  pub begins : s.value ≤ address
  pub ends : 0 < s.size → address < s.value + s.size
  pub near : s.size ≡ 0 → IsSomeAnd (find (is_inside address) image.segments) (λ (segment : Extent). segment.start ≤ s.value)

-- An address is told by no other symbol.
abbrev pub AddressesAreHeld : Type 0
AddressesAreHeld = (image : Contents) (address : ℕ) (s : Named) → symbol_of image address ≡ Some s → IsNameOf image address s
