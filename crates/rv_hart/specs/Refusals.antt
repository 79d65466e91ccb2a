-- When a step is refused.
use Rattle.std.specs.Prelude.{ℕ, Bool, true, false, ◌&&◌, nat_lt, nat_le, not, Option, Some, None, IsTrue, length, slice_get}
use Rattle.rv_hart.specs.State.{State, Guest, is_running}
use Rattle.rv_hart.specs.Step.{action_at}
use Rattle.rv_hart.specs.declared.action.Action.{Action}
use Rattle.rv_hart.specs.declared.action.Action.TheVariants.{Trap, Set, Load, Store, Reserve, Conditional, Replace, Print, Exit}
use Rattle.rv_hart.specs.declared.hart.Hart.{Hart}
use Rattle.rv_memory.specs.Memory.{Memory}

abbrev pub is_running_hart : Option Hart → Bool
is_running_hart None = false
is_running_hart (Some hart) = is_running hart.status

abbrev pub is_print : Action → Bool
is_print (Print byte) = true
is_print (Trap cause) = false
is_print (Set rd value next) = false
is_print (Load rd address size signed) = false
is_print (Store address size value) = false
is_print (Reserve rd address) = false
is_print (Conditional rd address value) = false
is_print (Replace rd address combine value) = false
is_print (Exit code) = false

-- a step of the hart would print a byte
abbrev pub prints : Memory → Option Hart → Bool
prints m None = false
prints m (Some hart) = is_running hart.status && is_print (action_at m hart)

-- there is a hart of the number, and it does not run
pub record IsIdle (s : State) (h : ℕ) : Type 0 where
  pub within : IsTrue (nat_lt h (length s.harts))
  pub idle : IsTrue (not (is_running_hart (slice_get s.harts h)))

-- a step of the hart would print a byte that the output has no room for
pub record HasNoRoom (g : Guest) (h : ℕ) : Type 0 where
  pub prints : IsTrue (prints g.state.memory (slice_get g.state.harts h))
  pub full : IsTrue (nat_le g.limit (length g.state.output))
