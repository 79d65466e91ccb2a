-- What harts do at a stuck end, by their acts, and what the first of them came to.
use Rattle.std.specs.Prelude.{◌≡◌, ℕ, Bool, Some, List, length, slice_get}
use Rattle.rv_hart.specs.State.{State}
use Rattle.rv_stuck.specs.Acts.{Conduct, conduct_in, conduct_of}
use Rattle.rv_stuck.specs.StuckEnd.{IsDoing}
use Rattle.rv_stuck.specs.declared.acts.Act.{Act}
use Rattle.rv_stuck.specs.declared.stuck.Doing.{Doing}
use Rattle.rv_orders.specs.Trial.{IsEnd}
use Rattle.rv_orders.specs.declared.end.HartEnd.{HartEnd}

-- hart h does so
pub record Does (s : State) (h : ℕ) (conduct : Conduct) : Type 0 where
  pub doing : Doing
  pub is : IsDoing s h doing
  pub conduct_is : conduct_of doing ≡ conduct

-- an act of each hart, which says what it does
pub record AreActs (s : State) (acts : List Act) : Type 0 where
  pub count : length acts ≡ length s.harts
  pub each : (h : ℕ) (act : Act) → slice_get acts h ≡ Some act → Does s h (conduct_in act)

-- what the first k harts came to
pub record AreFirstEnds (is_over : Bool) (s : State) (k : ℕ) (ends : List HartEnd) : Type 0 where
  pub count : length ends ≡ k
  pub each : (h : ℕ) (end : HartEnd) → slice_get ends h ≡ Some end → IsEnd is_over s h end
