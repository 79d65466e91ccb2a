-- Memory as a map from addresses to bytes: reading, writing and permissions.
use Rattle.std.specs.Prelude.{◌≡◌, ℕ, ◌+◌, ◌-◌, ◌*◌, ◌/◌, ◌%◌, ◌^◌, ◌⊎◌, Bool, true, false, ◌&&◌, ◌||◌, nat_le, nat_lt, if◌then◌else◌, Option, Some, None, unwrap_or, List, [], ◌∷◌, slice_get, slice_set, map, sum_by, zero, suc}
use Rattle.std.specs.List.{list_any}
use Rattle.rv_memory.specs.Extent.{Extent, end_of, filled}
use Rattle.rv_memory.specs.declared.store.Need.{Need}
use Rattle.rv_memory.specs.declared.store.Need.TheVariants.{Nothing, Read, Write, ReadWrite, Execute}
use Rattle.rv_memory.specs.declared.store.MemFault.{MemFault}
use Rattle.rv_memory.specs.declared.store.MemFault.TheVariants.{Overlap, TooLarge, PastEnd}
use Rattle.rv_memory.specs.declared.store.TheConstants.{LIMIT}

-- Memory is a list of extents, each with all of its bytes: a finite map from addresses to bytes, with
-- permissions.
abbrev pub Memory : Type 0
Memory = List Extent

abbrev pub covers : Extent → ℕ → Bool
covers e address = nat_le e.start address && nat_lt address (end_of e)

-- the byte at an address, or none outside of every extent
abbrev pub byte : Memory → ℕ → Option ℕ
byte [] address = None
byte (e ∷ es) address = if covers e address then slice_get e.bytes (address - e.start) else byte es address

-- the permissions that an access may need
abbrev pub allows : Extent → Need → Bool
allows e Nothing = true
allows e Read = e.r
allows e Write = e.w
allows e ReadWrite = e.r && e.w
allows e Execute = e.x

-- `size` bytes from `address` on lie wholly within the extent; their end does not wrap
abbrev pub holds : Extent → ℕ → ℕ → Bool
holds e address size = nat_le e.start address && nat_le (address + size) (end_of e)

-- those bytes lie wholly within one extent that has the permissions needed
abbrev pub permits : Memory → ℕ → ℕ → Need → Bool
permits m address size need = list_any (λ e. holds e address size && allows e need) m

-- the sizes of an access, in bytes
abbrev pub IsSize : ℕ → Type 0
IsSize size = (size ≡ 1) ⊎ (size ≡ 2) ⊎ (size ≡ 4)

-- `size` bytes from `address` on as a number, the least significant byte first
abbrev pub load : Memory → ℕ → ℕ → ℕ
load m address zero = 0
load m address (suc size) = unwrap_or (byte m address) 0 + 256 * load m (address + 1) size

-- those bytes where they are permitted
abbrev pub load_permitted : Memory → ℕ → ℕ → Need → Option ℕ
load_permitted m address size need = if permits m address size need then Some (load m address size) else None

-- one byte replaced; an address outside of every extent changes nothing
abbrev pub set_byte : Memory → ℕ → ℕ → Memory
set_byte [] address value = []
set_byte (e ∷ es) address value =
    if covers e address then record e { bytes = slice_set e.bytes (address - e.start) value } ∷ es else e ∷ set_byte es address value

-- the low `size` bytes of a number put from `address` on, the least significant first
abbrev pub store : Memory → ℕ → ℕ → ℕ → Memory
store m address zero value = m
store m address (suc size) value = store (set_byte m address (value % 256)) (address + 1) size (value / 256)

-- two extents share an address
abbrev pub meets : Extent → Extent → Bool
meets a b = nat_lt a.start (end_of b) && nat_lt b.start (end_of a)

-- some two extents of the list meet
abbrev pub overlaps : List Extent → Bool
overlaps [] = false
overlaps (e ∷ es) = list_any (meets e) es || overlaps es

-- the first test that a list of extents fails
abbrev pub fault_of : List Extent → Option MemFault
fault_of es =
    if list_any (λ e. nat_lt (2 ^ 32) (end_of e)) es then Some PastEnd
    else (if overlaps es then Some Overlap
    else (if nat_lt LIMIT (sum_by (λ e. e.len) es) then Some TooLarge else None))

-- the memory that a list of extents makes
abbrev pub memory_of : List Extent → Memory
memory_of = map filled
