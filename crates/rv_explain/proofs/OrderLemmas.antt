-- The state before a place, by the entries before it alone.
use Rattle.std.proofs.Common.{◌≡◌, ℕ, List, Some, length, take, ap, sym, ◌∙◌, arith}
use Rattle.std.proofs.lemmas.List.{take_all}
use Rattle.rv_collide.specs.Entries.{steps}
use Rattle.rv_collide.specs.StateAt.{state_at}
use Rattle.rv_collide.specs.declared.entry.Entry.{Entry}
use Rattle.rv_explain.specs.Order.{AreKept, IsOrder}
use Rattle.rv_explain.specs.declared.order.OrderTrials.{OrderTrials}
use Rattle.rv_explain.specs.declared.order.TrialNumbers.{TrialNumbers}
use Rattle.rv_hart.specs.Run.{run}
use Rattle.rv_hart.specs.State.{State}

-- all of the first entries are those
take_front : (entries : List Entry) (place : ℕ) → take (length (take place entries)) (take place entries) ≡ take place entries
take_front entries place = take_all (length (take place entries)) (take place entries) (omega arith)

state_before : (start : State) (entries : List Entry) (place : ℕ) → state_at start (take place entries) (length (take place entries)) ≡ state_at start entries place
unfolding state_at
state_before start entries place = ap (λ front. run start (steps front)) (take_front entries place)

-- what is kept of trials from the state at the end of the first entries
pub order_before : (start s : State) (entries : List Entry) (place : ℕ) (numbers : TrialNumbers) (first second : ℕ) (order : OrderTrials)
    → state_at start (take place entries) (length (take place entries)) ≡ Some s → order.first ≡ first → order.second ≡ second → AreKept s numbers order
    → IsOrder start entries place numbers first second order
order_before start s entries place numbers first second order at first_is second_is kept =
    let here : state_at start entries place ≡ Some s = sym (state_before start entries place) ∙ at in
    record { first_is = first_is; second_is = second_is; kept = rw here kept }
