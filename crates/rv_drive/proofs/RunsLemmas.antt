-- Whether a hart runs, as the machine tells it.
use Rattle.std.proofs.Common.{◌≡◌, ℕ, ◌≤◌, Bool, false, List, length, Option, Some, None, sym, ap, ◌∙◌}
use Rattle.std.specs.Prelude.{IsSomeAnd, slice_get}
use Rattle.std.specs.Option.{option_map_or}
use Rattle.std.proofs.lemmas.Option.{slice_get_past}
use Rattle.rv_collide.specs.Next.{runs_at}
use Rattle.rv_collide.specs.StateAt.{state_at}
use Rattle.rv_collide.specs.declared.entry.Entry.{Entry}
use Rattle.rv_hart.specs.Refusals.{is_running_hart}
use Rattle.rv_hart.specs.State.{State, is_running}
use Rattle.rv_hart.specs.declared.hart.Hart.{Hart}
use Rattle.rv_hart.specs.declared.hart.Status.{Status}

pub runs_of : (start s : State) (entries : List Entry) (place hart : ℕ) (b : Bool) → state_at start entries place ≡ Some s → b ≡ is_running_hart (slice_get s.harts hart) → b ≡ runs_at start entries place hart
unfolding runs_at
runs_of start s entries place hart b at is =
    is ∙ sym (ap (λ (o : Option State). option_map_or (λ (s : State). is_running_hart (slice_get s.harts hart)) o false) at)

pub no_hart : (start s : State) (entries : List Entry) (place hart : ℕ) → state_at start entries place ≡ Some s → length s.harts ≤ hart → false ≡ runs_at start entries place hart
no_hart start s entries place hart at past = runs_of start s entries place hart false at (sym (ap is_running_hart (slice_get_past s.harts hart past)))

of_status : (o : Option Hart) (status : Status) → IsSomeAnd o (λ (hart : Hart). status ≡ hart.status) → is_running status ≡ is_running_hart o
of_status None status h = absurd h
of_status (Some hart) status h = ap is_running h

pub by_status : (start s : State) (entries : List Entry) (place hart : ℕ) (status : Status) (b : Bool) → state_at start entries place ≡ Some s → IsSomeAnd (slice_get s.harts hart) (λ (hart : Hart). status ≡ hart.status) → b ≡ is_running status → b ≡ runs_at start entries place hart
by_status start s entries place hart status b at has is = runs_of start s entries place hart b at (is ∙ of_status (slice_get s.harts hart) status has)
