use Rattle.std.specs.Prelude.{ℕ, ◌+◌, ◌*◌, ◌/◌, ◌%◌, List, slice_index, slice_set, zero, suc}
use Rattle.rv_memory.specs.Memory.{Memory}
use Rattle.rv_memory.specs.Sound.{IsSound}
use Rattle.rv_memory.specs.internal.Index.{IsIndex}

-- memory as the flat store keeps it, with the places to look from
pub record IsFlat (m : Memory) (firsts : List ℕ) : Type 0 where
  pub sound : IsSound m
  pub index : IsIndex m firsts

-- `size` bytes of a list from a place on as a number, the least significant byte first
abbrev pub number_at : List ℕ → ℕ → ℕ → ℕ
number_at bytes place zero = 0
number_at bytes place (suc size) = slice_index bytes place + 256 * number_at bytes (place + 1) size

-- the low `size` bytes of a number put into a list from a place on, the least significant first
abbrev pub put_at : List ℕ → ℕ → ℕ → ℕ → List ℕ
put_at bytes place zero value = bytes
put_at bytes place (suc size) value = put_at (slice_set bytes place (value % 256)) (place + 1) size (value / 256)
