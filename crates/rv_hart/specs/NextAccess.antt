-- The access that a hart's next step would make, and the same of a plain load or store alone.
use Rattle.std.specs.Prelude.{ℕ, Bool, true, false, Option, Some, None, if◌then◌else◌, slice_get}
use Rattle.rv_hart.specs.State.{State}
use Rattle.rv_hart.specs.Step.{step_of}
use Rattle.rv_hart.specs.declared.access.Access.{Access}
use Rattle.rv_hart.specs.declared.access.Event.{Event}
use Rattle.rv_hart.specs.declared.access.Event.TheVariants as event
use Rattle.rv_hart.specs.declared.hart.Hart.{Hart}
use Rattle.rv_isa.specs.Decoded.{op_at}
use Rattle.rv_isa.specs.Shape.{shape_of}
use Rattle.rv_isa.specs.declared.op.Op.{Op}
use Rattle.rv_isa.specs.declared.shape.Shape.{Shape}
use Rattle.rv_isa.specs.declared.shape.Shape.TheVariants as shape
use Rattle.rv_memory.specs.Memory.{Memory, load}

-- the access of an event, if it made one
abbrev pub accessed : Event → Option Access
accessed (event.Moved access) = access
accessed (event.Exited code) = None
accessed (event.Stopped cause) = None

abbrev pub access_of_step : Option (Event × State) → Option Access
access_of_step None = None
access_of_step (Some (e, t)) = accessed e

-- there is an access, and it writes
abbrev pub is_write : Option Access → Bool
is_write None = false
is_write (Some access) = access.write

-- the access that a step of hart h would make now, or none
unfoldable pub next_access : State → ℕ → Option Access
next_access s h = access_of_step (step_of s h)

abbrev pub is_plain : Shape → Bool
is_plain (shape.PlainLoad size) = true
is_plain (shape.PlainStore size) = true
is_plain shape.Lr = false
is_plain shape.Sc = false
is_plain shape.Amo = false
is_plain shape.Other = false

abbrev pub is_plain_op : Option Op → Bool
is_plain_op None = false
is_plain_op (Some op) = is_plain (shape_of op)

-- the word at the hart's pc is a plain load or store
abbrev pub at_plain : Memory → Option Hart → Bool
at_plain m None = false
at_plain m (Some hart) = is_plain_op (op_at (load m hart.pc 4))

-- the same where the word at pc is a plain load or store, else none
unfoldable pub next_plain : State → ℕ → Option Access
next_plain s h = if at_plain s.memory (slice_get s.harts h) then next_access s h else None
