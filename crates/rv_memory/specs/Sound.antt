-- Memory as a store makes it.
use Rattle.std.specs.Prelude.{◌≡◌, None, All}
use Rattle.rv_memory.specs.Extent.{IsFull}
use Rattle.rv_memory.specs.Memory.{Memory, fault_of}

-- memory as a store makes it: each extent has all of its bytes, none ends past 2 ^ 32, no two meet,
-- and together they are within the limit
pub record IsSound (m : Memory) : Type 0 where
  pub full : All IsFull m
  pub no_fault : fault_of m ≡ None
