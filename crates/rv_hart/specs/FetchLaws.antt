-- What a hart does next, in the terms of the instruction table.
use Rattle.std.specs.Prelude.{◌≡◌, ℕ, false, IsTrue, if◌then◌else◌, Some, None, slice_get}
use Rattle.rv_hart.specs.Act.{action_of}
use Rattle.rv_hart.specs.NextAccess.{is_plain, next_access, next_plain}
use Rattle.rv_hart.specs.State.{State}
use Rattle.rv_hart.specs.Step.{action_at, allowed}
use Rattle.rv_hart.specs.declared.action.Action.TheVariants.{Trap}
use Rattle.rv_hart.specs.declared.hart.Cause.TheVariants.{FetchFault, Illegal}
use Rattle.rv_hart.specs.declared.hart.Hart.{Hart}
use Rattle.rv_isa.specs.Instr.{Row}
use Rattle.rv_isa.specs.Shape.{shape_of}
use Rattle.rv_isa.specs.declared.instr.Instr.{Instr}
use Rattle.rv_memory.specs.Memory.{Memory, load, permits}
use Rattle.rv_memory.specs.declared.store.Need.TheVariants.{Execute}

-- the word at the hart's pc has the row of the instruction
abbrev pub HasRow : Memory → Hart → Instr → Type 0
HasRow m hart i = Row (load m hart.pc 4) i

-- where the word at a permitted pc has the row of an instruction, the hart does what that instruction
-- does, with its access tested
abbrev pub InstructionLaw : Type 0
InstructionLaw =
    (m : Memory) (hart : Hart) (i : Instr) → IsTrue (permits m hart.pc 4 Execute) → HasRow m hart i → action_at m hart ≡ allowed m (action_of i hart)

-- where it has the row of none, the hart stops with cause 2
abbrev pub IllegalLaw : Type 0
IllegalLaw =
    (m : Memory) (hart : Hart) → IsTrue (permits m hart.pc 4 Execute) → ¬ ((i : Instr) × HasRow m hart i) → action_at m hart ≡ Trap Illegal

-- where the four bytes at pc are not permitted, it stops with cause 1
abbrev pub FetchFaultLaw : Type 0
FetchFaultLaw = (m : Memory) (hart : Hart) → permits m hart.pc 4 Execute ≡ false → action_at m hart ≡ Trap FetchFault

-- the next plain access is the next access where the word at pc has the row of a plain load or store
abbrev pub PlainLaw : Type 0
PlainLaw =
    (s : State) (h : ℕ) (hart : Hart) (i : Instr) → slice_get s.harts h ≡ Some hart → HasRow s.memory hart i → next_plain s h ≡ (if is_plain (shape_of i.op) then next_access s h else None)
