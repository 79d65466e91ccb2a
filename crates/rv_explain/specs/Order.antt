-- What is kept of the trials of both orders of a race's two accesses.
use Rattle.std.specs.Prelude.{◌≡◌, ℕ, ◌+◌, ◌%◌, ◌^◌, ◌<◌, IfSome, IsSomeAnd, List}
use Rattle.rv_collide.specs.StateAt.{state_at}
use Rattle.rv_collide.specs.declared.entry.Entry.{Entry}
use Rattle.rv_explain.specs.declared.order.OrderTrials.{OrderTrials}
use Rattle.rv_explain.specs.declared.order.TrialNumbers.{TrialNumbers}
use Rattle.rv_hart.specs.State.{State}
use Rattle.rv_orders.specs.Trial.{IsTrial}
use Rattle.rv_orders.specs.declared.difference.Difference.TheVariants as difference
use Rattle.rv_orders.specs.declared.tried.Trial.{Trial}

-- it is one of the numbers, which have 32 bits
pub record IsAmong (numbers : TrialNumbers) (number : ℕ) : Type 0 where
  pub k : ℕ
  pub few : k < numbers.count
  pub is : number ≡ (numbers.first + k) % 2 ^ 32

-- by a trial of one of these numbers, of both orders of these two harts' steps from a state, some hart ends otherwise
pub record EndsOtherwise (s : State) (numbers : TrialNumbers) (first second : ℕ) (trial : Trial) : Type 0 where
  pub number : ℕ
  pub among : IsAmong numbers number
  pub is : IsTrial s first second number trial
  pub difference_is : trial.difference ≡ difference.Ends

-- by some such trial the byte at the address differs
pub record DiffersAt (s : State) (numbers : TrialNumbers) (first second address : ℕ) : Type 0 where
  pub number : ℕ
  pub among : IsAmong numbers number
  pub trial : Trial
  pub is : IsTrial s first second number trial
  pub difference_is : trial.difference ≡ difference.Memory address

-- what is kept is of trials of these numbers from this state
pub record AreKept (s : State) (numbers : TrialNumbers) (order : OrderTrials) : Type 0 where
  pub ends : IfSome order.ends_by (EndsOtherwise s numbers order.first order.second)
  pub memory : IfSome order.memory_at (DiffersAt s numbers order.first order.second)

-- The two harts are these, and the steps of the entries before the place lead to the state that the trials are from.
pub record IsOrder (start : State) (entries : List Entry) (place : ℕ) (numbers : TrialNumbers) (first second : ℕ) (order : OrderTrials) : Type 0 where
  pub first_is : order.first ≡ first
  pub second_is : order.second ≡ second
  pub kept : IsSomeAnd (state_at start entries place) (λ s. AreKept s numbers order)
