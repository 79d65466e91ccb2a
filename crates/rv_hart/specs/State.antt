-- The state of a machine, its harts, memory and output, and how it begins.
use Rattle.std.specs.Prelude.{ℕ, ◌+◌, ◌*◌, Bool, true, false, List, [], ◌++◌, map, slice_set, replicate, None}
use Rattle.std.specs.List.{range_with_len}
use Rattle.rv_hart.specs.declared.hart.Hart.{Hart}
use Rattle.rv_hart.specs.declared.hart.Status.{Status}
use Rattle.rv_hart.specs.declared.hart.Status.TheVariants.{Running, Exited, Stopped}
use Rattle.rv_memory.specs.Extent.{Extent}
use Rattle.rv_memory.specs.Memory.{Memory, memory_of}

-- The machine's state: the harts by number, the memory that they share, and the bytes printed so far.
pub record State : Type 0 where
  pub harts : List Hart
  pub memory : Memory
  pub output : List ℕ

-- A guest: its state, and the most bytes that it may print.
pub record Guest : Type 0 where
  pub state : State
  pub limit : ℕ

abbrev pub is_running : Status → Bool
is_running Running = true
is_running (Exited code) = false
is_running (Stopped cause) = false

-- The stacks (this project's own): 65,536 bytes a hart, from 0xC0000000 on.
abbrev pub stack_start : ℕ → ℕ
stack_start hart = 0xc0000000 + hart * 0x10000

abbrev pub stack : ℕ → Extent
stack hart = record { start = stack_start hart; bytes = []; len = 0x10000; r = true; w = true; x = false }

abbrev pub stacks : ℕ → List Extent
stacks count = map stack (range_with_len 0 count)

-- A hart begins at the entry, with its number in x10, the number of harts in x11 and the end of its
-- stack in x2; all else is 0. (This project's own.)
abbrev pub first_registers : ℕ → ℕ → List ℕ
first_registers count hart = slice_set (slice_set (slice_set (replicate 32 0) 2 (stack_start (hart + 1))) 10 hart) 11 count

abbrev pub first_hart : ℕ → ℕ → ℕ → Hart
first_hart entry count hart =
    record { registers = first_registers count hart; pc = entry; status = Running; reservation = None }

-- the regions of a machine: those given, and the stacks
abbrev pub with_stacks : List Extent → ℕ → List Extent
with_stacks given count = given ++ stacks count

abbrev pub start : List Extent → ℕ → ℕ → State
start given entry count =
    record { harts = map (first_hart entry count) (range_with_len 0 count); memory = memory_of (with_stacks given count); output = [] }
