-- One step of a hart: its event and the new state, or none where it does not run.
use Rattle.std.specs.Prelude.{ℕ, ◌+◌, ◌%◌, Bool, true, false, ◌&&◌, ◌==◌, nat_lt, if◌then◌else◌, Option, Some, None, List, [], ◌∷◌, ◌++◌, map, slice_get, slice_set}
use Rattle.rv_hart.specs.Act.{action_of, following}
use Rattle.rv_hart.specs.Registers.{set}
use Rattle.rv_hart.specs.State.{State, is_running}
use Rattle.rv_hart.specs.Arithmetic.{combined, extended}
use Rattle.rv_hart.specs.declared.access.Access.{Access}
use Rattle.rv_hart.specs.declared.access.Event.{Event}
use Rattle.rv_hart.specs.declared.access.Event.TheVariants as event
use Rattle.rv_hart.specs.declared.action.Action.{Action}
use Rattle.rv_hart.specs.declared.action.Action.TheVariants.{Trap, Set, Load, Store, Reserve, Conditional, Replace, Print, Exit}
use Rattle.rv_hart.specs.declared.hart.Cause.{Cause}
use Rattle.rv_hart.specs.declared.hart.Cause.TheVariants.{FetchFault, Illegal, LoadMisaligned, LoadFault, StoreMisaligned, StoreFault}
use Rattle.rv_hart.specs.declared.hart.Hart.{Hart}
use Rattle.rv_hart.specs.declared.hart.Status.TheVariants as status
use Rattle.rv_hart.specs.declared.write.Write.{Write}
use Rattle.rv_isa.specs.Decoded.{decoded}
use Rattle.rv_isa.specs.declared.instr.Instr.{Instr}
use Rattle.rv_memory.specs.Memory.{Memory, load, store, permits}
use Rattle.rv_memory.specs.declared.store.Need.{Need}
use Rattle.rv_memory.specs.declared.store.Need.TheVariants as need

-- ---- which action a hart takes

abbrev pub action_at_word : Option Instr → Hart → Action
action_at_word None hart = Trap Illegal
action_at_word (Some i) hart = action_of i hart

-- the action of the instruction at pc; the fetch sees every earlier store
abbrev pub fetched : Memory → Hart → Action
fetched m hart =
    if permits m hart.pc 4 need.Execute then action_at_word (decoded (load m hart.pc 4)) hart else Trap FetchFault

-- an access must be aligned to its size, and then permitted
abbrev pub tested : Memory → ℕ → ℕ → Need → Cause → Cause → Action → Action
tested m address size n misaligned fault action =
    if address % size == 0 then (if permits m address size n then action else Trap fault) else Trap misaligned

abbrev pub allowed : Memory → Action → Action
allowed m (Trap cause) = Trap cause
allowed m (Set rd value next) = Set rd value next
allowed m (Load rd address size signed) = tested m address size need.Read LoadMisaligned LoadFault (Load rd address size signed)
allowed m (Store address size value) = tested m address size need.Write StoreMisaligned StoreFault (Store address size value)
allowed m (Reserve rd address) = tested m address 4 need.Read LoadMisaligned LoadFault (Reserve rd address)
allowed m (Conditional rd address value) = tested m address 4 need.Write StoreMisaligned StoreFault (Conditional rd address value)
allowed m (Replace rd address combine value) = tested m address 4 need.ReadWrite StoreMisaligned StoreFault (Replace rd address combine value)
allowed m (Print byte) = Print byte
allowed m (Exit code) = Exit code

abbrev pub action_at : Memory → Hart → Action
action_at m hart = allowed m (fetched m hart)

-- ---- what an action does

-- the hart holds a reservation of the word at the address
abbrev pub reserves : Option ℕ → ℕ → Bool
reserves None address = false
reserves (Some reserved) address = reserved == address

-- the bytes that it loads
abbrev pub loaded_by : Memory → Action → ℕ
loaded_by m (Load rd address size signed) = load m address size
loaded_by m (Reserve rd address) = load m address 4
loaded_by m (Replace rd address combine value) = load m address 4
loaded_by m (Trap cause) = 0
loaded_by m (Set rd value next) = 0
loaded_by m (Store address size value) = 0
loaded_by m (Conditional rd address value) = 0
loaded_by m (Print byte) = 0
loaded_by m (Exit code) = 0

abbrev pub write : ℕ → ℕ → ℕ → Write
write address size value = record { address = address; size = size; value = value }

-- the bytes that it writes
abbrev pub written_by : ℕ → Hart → Action → Option Write
written_by loaded hart (Store address size value) = Some (write address size value)
written_by loaded hart (Conditional rd address value) = if reserves hart.reservation address then Some (write address 4 value) else None
written_by loaded hart (Replace rd address combine value) = Some (write address 4 (combined combine loaded value))
written_by loaded hart (Trap cause) = None
written_by loaded hart (Set rd value next) = None
written_by loaded hart (Load rd address size signed) = None
written_by loaded hart (Reserve rd address) = None
written_by loaded hart (Print byte) = None
written_by loaded hart (Exit code) = None

abbrev pub memory_after : Memory → Option Write → Memory
memory_after m None = m
memory_after m (Some w) = store m w.address w.size w.value

-- an access that reads its bytes, that writes them, or both
abbrev pub reads : Hart → ℕ → ℕ → Access
reads hart first size = record { pc = hart.pc; first = first; size = size; read = true; write = false }

abbrev pub writes : Hart → ℕ → ℕ → Access
writes hart first size = record { pc = hart.pc; first = first; size = size; read = false; write = true }

abbrev pub both : Hart → ℕ → ℕ → Access
both hart first size = record { pc = hart.pc; first = first; size = size; read = true; write = true }

-- the access that it makes; a failing SC makes none
abbrev pub access_of : Hart → Action → Option Access
access_of hart (Load rd address size signed) = Some (reads hart address size)
access_of hart (Store address size value) = Some (writes hart address size)
access_of hart (Reserve rd address) = Some (reads hart address 4)
access_of hart (Conditional rd address value) = if reserves hart.reservation address then Some (writes hart address 4) else None
access_of hart (Replace rd address combine value) = Some (both hart address 4)
access_of hart (Trap cause) = None
access_of hart (Set rd value next) = None
access_of hart (Print byte) = None
access_of hart (Exit code) = None

abbrev pub event_of : Hart → Action → Event
event_of hart (Trap cause) = event.Stopped cause
event_of hart (Exit code) = event.Exited code
event_of hart (Set rd value next) = event.Moved None
event_of hart (Print byte) = event.Moved None
event_of hart (Load rd address size signed) = event.Moved (access_of hart (Load rd address size signed))
event_of hart (Store address size value) = event.Moved (access_of hart (Store address size value))
event_of hart (Reserve rd address) = event.Moved (access_of hart (Reserve rd address))
event_of hart (Conditional rd address value) = event.Moved (access_of hart (Conditional rd address value))
event_of hart (Replace rd address combine value) = event.Moved (access_of hart (Replace rd address combine value))

-- the hart at the following word, with a register set
abbrev moved : Hart → ℕ → ℕ → Hart
moved hart rd value = record hart { registers = set hart.registers rd value; pc = following hart }

-- the hart that acts; what traps changes nothing but its status
abbrev pub hart_after : ℕ → Hart → Action → Hart
hart_after loaded hart (Trap cause) = record hart { status = status.Stopped cause }
hart_after loaded hart (Exit code) = record hart { status = status.Exited code }
hart_after loaded hart (Set rd value next) = record hart { registers = set hart.registers rd value; pc = next }
hart_after loaded hart (Load rd address size signed) = moved hart rd (extended signed size loaded)
hart_after loaded hart (Store address size value) = record hart { pc = following hart }
hart_after loaded hart (Reserve rd address) = record hart { registers = set hart.registers rd loaded; pc = following hart; reservation = Some address }
hart_after loaded hart (Conditional rd address value) =
    record hart { registers = set hart.registers rd (if reserves hart.reservation address then 0 else 1); pc = following hart; reservation = None }
hart_after loaded hart (Replace rd address combine value) = moved hart rd loaded
hart_after loaded hart (Print byte) = record hart { pc = following hart }

-- another hart's write of a byte of the reserved word ends a reservation
abbrev pub kept : Option Write → Option ℕ → Option ℕ
kept None reservation = reservation
kept (Some w) None = None
kept (Some w) (Some reserved) =
    if nat_lt w.address (reserved + 4) && nat_lt reserved (w.address + w.size) then None else Some reserved

abbrev pub seen_by : Option Write → Hart → Hart
seen_by w hart = record hart { reservation = kept w hart.reservation }

abbrev pub printed : Action → List ℕ
printed (Print byte) = byte ∷ []
printed (Trap cause) = []
printed (Set rd value next) = []
printed (Load rd address size signed) = []
printed (Store address size value) = []
printed (Reserve rd address) = []
printed (Conditional rd address value) = []
printed (Replace rd address combine value) = []
printed (Exit code) = []

-- ---- the step

-- the state after hart h, which is `hart`, has taken the action
abbrev pub state_after : State → ℕ → Hart → Action → State
state_after s h hart action =
    let loaded = loaded_by s.memory action in
    let w = written_by loaded hart action in
    record {
      harts = slice_set (map (seen_by w) s.harts) h (hart_after loaded hart action);
      memory = memory_after s.memory w;
      output = s.output ++ printed action;
    }

abbrev pub step_by : State → ℕ → Hart → Action → Event × State
step_by s h hart action = (event_of hart action, state_after s h hart action)

abbrev pub step_of_hart : State → ℕ → Option Hart → Option (Event × State)
step_of_hart s h None = None
step_of_hart s h (Some hart) = if is_running hart.status then Some (step_by s h hart (action_at s.memory hart)) else None

-- What one step of hart h does: its event and the state after it, where h is a running hart, and else
-- none. (RISC-V Unprivileged ISA, chapters RV32I, M and A; all steps stand in one order.)
unfoldable pub step_of : State → ℕ → Option (Event × State)
step_of s h = step_of_hart s h (slice_get s.harts h)
