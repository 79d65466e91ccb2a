use Rattle.std.specs.Prelude.{ℕ, ◌^◌, ◌<◌, IsTrue, ⊤, Option, Some, None}
use Rattle.rv_hart.specs.declared.action.Action.{Action}
use Rattle.rv_hart.specs.declared.action.Action.TheVariants.{Trap, Set, Load, Store, Reserve, Conditional, Replace, Print, Exit}
use Rattle.rv_hart.specs.declared.write.Write.{Write}
use Rattle.rv_memory.specs.Memory.{Memory, IsSize, permits}
use Rattle.rv_memory.specs.declared.store.Need.TheVariants.{Nothing}

-- bytes of one of the sizes, wholly within one region
pub record AreBytes (m : Memory) (address size : ℕ) : Type 0 where
  pub sized : IsSize size
  pub within : IsTrue (permits m address size Nothing)

-- what passed the tests accesses bytes that there are
abbrev pub IsAble : Memory → Action → Type 0
IsAble m (Load rd address size signed) = AreBytes m address size
IsAble m (Store address size value) = AreBytes m address size
IsAble m (Reserve rd address) = AreBytes m address 4
IsAble m (Conditional rd address value) = AreBytes m address 4
IsAble m (Replace rd address combine value) = AreBytes m address 4
IsAble m (Trap cause) = ⊤
IsAble m (Set rd value next) = ⊤
IsAble m (Print byte) = ⊤
IsAble m (Exit code) = ⊤

-- the sizes of what an action accesses, before it is tested
abbrev pub HasSize : Action → Type 0
HasSize (Load rd address size signed) = IsSize size
HasSize (Store address size value) = IsSize size
HasSize (Reserve rd address) = ⊤
HasSize (Conditional rd address value) = ⊤
HasSize (Replace rd address combine value) = ⊤
HasSize (Trap cause) = ⊤
HasSize (Set rd value next) = ⊤
HasSize (Print byte) = ⊤
HasSize (Exit code) = ⊤

-- what is written are such bytes
abbrev pub IsAbleWrite : Memory → Option Write → Type 0
IsAbleWrite m None = ⊤
IsAbleWrite m (Some w) = AreBytes m w.address w.size

-- and the store has them ready
abbrev pub IsReady : {T : Type 0} → (T → ℕ → ℕ → Type 0) → T → Option Write → Type 0
IsReady is_ready store None = ⊤
IsReady is_ready store (Some w) = is_ready store w.address w.size

-- what was loaded fits the bytes that it was loaded from
pub record FitsSize (loaded size : ℕ) : Type 0 where
  pub sized : IsSize size
  pub below : loaded < 256 ^ size

abbrev pub Fits : ℕ → Action → Type 0
Fits loaded (Load rd address size signed) = FitsSize loaded size
Fits loaded (Store address size value) = ⊤
Fits loaded (Reserve rd address) = ⊤
Fits loaded (Conditional rd address value) = ⊤
Fits loaded (Replace rd address combine value) = ⊤
Fits loaded (Trap cause) = ⊤
Fits loaded (Set rd value next) = ⊤
Fits loaded (Print byte) = ⊤
Fits loaded (Exit code) = ⊤
