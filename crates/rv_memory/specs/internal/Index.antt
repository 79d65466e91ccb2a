use Rattle.std.specs.Prelude.{◌≡◌, ℕ, ◌+◌, ◌*◌, ◌<◌, Bool, false, ◌&&◌, nat_le, nat_lt, List, drop, length, slice_index, slice_index_or}
use Rattle.rv_memory.specs.Extent.{Extent, end_of}
use Rattle.rv_memory.specs.Memory.{Memory, permits}
use Rattle.rv_memory.specs.declared.store.Need.{Need}
use Rattle.rv_memory.specs.declared.index.TheConstants.{BLOCK, BLOCKS}

-- the extent has an address of the block, or ends where the block begins
abbrev pub touches : ℕ → Extent → Bool
touches block e = nat_lt e.start ((block + 1) * BLOCK) && nat_le (block * BLOCK) (end_of e)

-- for each block a place before which no extent touches it
pub record IsIndex (m : Memory) (firsts : List ℕ) : Type 0 where
  pub count : length firsts ≡ BLOCKS
  pub skips : (block place : ℕ) (e : Extent) → block < BLOCKS → place < slice_index firsts block → place < length m → touches block (slice_index_or m place e) ≡ false

-- no extent before the place permits the access
abbrev pub Skips : Memory → ℕ → ℕ → ℕ → Need → Type 0
Skips m place address size need = permits (drop place m) address size need ≡ permits m address size need
