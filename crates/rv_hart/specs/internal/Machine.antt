use Rattle.std.specs.Prelude.{◌≡◌, ℕ, Bool, false, IsTrue, ◌≤◌, Vec, vec_len, vec_capacity}
use Rattle.std.specs.declared.alloc.Global.{Global}
use Rattle.rv_hart.specs.SomeHart.{SomeHart}
use Rattle.rv_hart.specs.State.{State, is_running}
use Rattle.rv_hart.specs.Step.{action_at}
use Rattle.rv_hart.specs.declared.action.Action.{Action}
use Rattle.rv_hart.specs.declared.hart.Hart.{Hart}
use Rattle.rv_hart.specs.declared.machine.TheConstants.{MOST_HARTS}
use Rattle.rv_hart.specs.internal.Harts.{any_holds}
use Rattle.rv_memory.specs.Memory.{Memory}
use Rattle.rv_memory.specs.Sound.{IsSound}

-- what each machine keeps: 1 to `MOST_HARTS` harts, sound memory, room for the output up to its limit, and whether a
-- hart may hold a reservation
pub record IsMachine (harts : Vec Hart Global) (memory : Memory) (output : Vec ℕ Global) (limit : ℕ) (reserved : Bool) : Type 0 where
  pub some : 1 ≤ vec_len harts
  pub within : vec_len harts ≤ MOST_HARTS
  pub sound : IsSound memory
  pub printed : vec_len output ≤ limit
  pub room : limit ≤ vec_capacity output
  pub held : (reserved ≡ false) → any_holds harts.items ≡ false

-- hart h runs, and this is what it does next
pub record RunsTo (memory : Memory) (hart : Hart) (action : Action) : Type 0 where
  pub running : IsTrue (is_running hart.status)
  pub next : action ≡ action_at memory hart

abbrev pub Takes : State → ℕ → Action → Type 0
Takes s h action = SomeHart (λ hart. RunsTo s.memory hart action) s h
