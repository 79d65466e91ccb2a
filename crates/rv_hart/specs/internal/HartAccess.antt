use Rattle.std.specs.Prelude.{Option, None, if◌then◌else◌}
use Rattle.rv_hart.specs.State.{is_running}
use Rattle.rv_hart.specs.Step.{action_at, access_of}
use Rattle.rv_hart.specs.declared.access.Access.{Access}
use Rattle.rv_hart.specs.declared.action.Action.{Action}
use Rattle.rv_hart.specs.declared.action.Action.TheVariants.{Trap, Set, Load, Store, Reserve, Conditional, Replace, Print, Exit}
use Rattle.rv_hart.specs.declared.hart.Hart.{Hart}
use Rattle.rv_memory.specs.Memory.{Memory}

-- the access that the hart's next step makes, of the hart itself
abbrev pub hart_access : Memory → Hart → Option Access
hart_access m hart = if is_running hart.status then access_of hart (action_at m hart) else None

-- an action's access, where it is a plain load or store
abbrev pub plain_access : Hart → Action → Option Access
plain_access hart (Load rd address size signed) = access_of hart (Load rd address size signed)
plain_access hart (Store address size value) = access_of hart (Store address size value)
plain_access hart (Trap cause) = None
plain_access hart (Set rd value next) = None
plain_access hart (Reserve rd address) = None
plain_access hart (Conditional rd address value) = None
plain_access hart (Replace rd address combine value) = None
plain_access hart (Print byte) = None
plain_access hart (Exit code) = None

abbrev pub hart_plain : Memory → Hart → Option Access
hart_plain m hart = if is_running hart.status then plain_access hart (action_at m hart) else None
