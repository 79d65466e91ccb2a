use Rattle.std.specs.Prelude.{◌≡◌, ◌+◌, ◌<◌, ◌≤◌, true, length, slice_index_or}
use Rattle.rv_memory.specs.Extent.{Extent}
use Rattle.rv_memory.specs.Memory.{Memory}
use Rattle.rv_memory.specs.declared.code.Code.{Code}

-- an extent of memory that may be executed and that ends 3 bytes or more after the last of the addresses that begin a word in it
pub record IsExecutable (e : Extent) (code : Code) : Type 0 where
  pub executable : e.x ≡ true
  pub start : e.start ≡ code.start
  pub within : code.words + 3 ≤ e.len

-- where there are such addresses, there is such an extent at the place
pub record IsCode (m : Memory) (code : Code) : Type 0 where
  pub below : 0 < code.words → code.place < length m
  pub there : (e : Extent) → 0 < code.words → IsExecutable (slice_index_or m code.place e) code
