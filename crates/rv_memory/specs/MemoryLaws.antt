-- What a store leaves as it was, and what is read back.
use Rattle.std.specs.Prelude.{◌≡◌, ℕ, ◌+◌, ◌^◌, ◌%◌, ◌≤◌, ◌<◌, ◌⊎◌, true, false, is_some, List, map, None, All, IsTrue}
use Rattle.std.specs.List.{list_any}
use Rattle.rv_memory.specs.Extent.{Extent, IsExtent, IsFull, span}
use Rattle.rv_memory.specs.Memory.{Memory, byte, covers, permits, load, store, overlaps, fault_of, memory_of}
use Rattle.rv_memory.specs.Sound.{IsSound}
use Rattle.rv_memory.specs.declared.store.Need.{Need}
use Rattle.rv_memory.specs.declared.store.Need.TheVariants.{Nothing}

-- the address lies before the bytes or after them
abbrev pub IsOutside : ℕ → ℕ → ℕ → Type 0
IsOutside other address size = (other < address) ⊎ (address + size ≤ other)

-- a store leaves each byte outside of its own as it was
abbrev pub StoreKeepsOtherBytes : Type 0
StoreKeepsOtherBytes =
    (m : Memory) (address size value other : ℕ) → IsOutside other address size → byte (store m address size value) other ≡ byte m other

-- a load of bytes that a store does not touch gives what it gave before
abbrev pub StoreKeepsOtherLoads : Type 0
StoreKeepsOtherLoads =
    (m : Memory) (address size value other count : ℕ) → (other + count ≤ address) ⊎ (address + size ≤ other) → load (store m address size value) other count ≡ load m other count

-- a store moves no extent and changes no permission
abbrev pub StoreKeepsSpans : Type 0
StoreKeepsSpans = (m : Memory) (address size value : ℕ) → map span (store m address size value) ≡ map span m

-- so each access is permitted as before
abbrev pub StoreKeepsPermissions : Type 0
StoreKeepsPermissions =
    (m : Memory) (address size value other count : ℕ) (need : Need) → permits (store m address size value) other count need ≡ permits m other count need

-- where no two extents meet and each has all of its bytes, what is stored is read back, as far as
-- it fits the bytes
abbrev pub StoredIsReadBack : Type 0
StoredIsReadBack =
    (m : Memory) (address size value : ℕ) → overlaps m ≡ false → All IsFull m → IsTrue (permits m address size Nothing) → load (store m address size value) address size ≡ value % 256 ^ size

-- where each extent has all of its bytes, there is a byte at just the addresses that some extent covers
abbrev pub BytesStandWhereCovered : Type 0
BytesStandWhereCovered =
    (m : Memory) (address : ℕ) → All IsFull m → is_some (byte m address) ≡ list_any (λ e. covers e address) m

-- memory as a store makes it is sound
abbrev pub MadeIsSound : Type 0
MadeIsSound = (es : List Extent) → All IsExtent es → fault_of es ≡ None → IsSound (memory_of es)

-- and a store keeps it so
abbrev pub StoreKeepsSound : Type 0
StoreKeepsSound = (m : Memory) (address size value : ℕ) → IsSound m → IsSound (store m address size value)

-- what is permitted for some need lies in memory
abbrev pub PermittedIsThere : Type 0
PermittedIsThere =
    (m : Memory) (address size : ℕ) (need : Need) → permits m address size need ≡ true → permits m address size Nothing ≡ true
