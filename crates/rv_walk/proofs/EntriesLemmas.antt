-- A walk's schedule, and the list of its harts.
use Rattle.std.proofs.Common.{◌≡◌, ℕ, zero, suc, List, [], ◌∷◌, length, take, Option, Some, None, refl, sym, ap, ◌∙◌}
use Rattle.std.specs.Prelude.{map, option_and_then, slice_get}
use Rattle.std.proofs.lemmas.List.{take-map}
use Rattle.std.proofs.Math.Seq.{take-length}
use Rattle.rv_break.specs.declared.claim.Seen.{Seen}
use Rattle.rv_collide.specs.Entries.{stepped_hart, stepped_at, steps}
use Rattle.rv_collide.specs.Made.{made}
use Rattle.rv_collide.specs.Next.{next}
use Rattle.rv_collide.specs.StateAt.{state_at}
use Rattle.rv_collide.specs.declared.entry.Entry.TheVariants.{Stepped}
use Rattle.rv_hart.specs.NextAccess.{next_access}
use Rattle.rv_hart.specs.Run.{run}
use Rattle.rv_hart.specs.State.{State}
use Rattle.rv_hart.specs.declared.access.Access.{Access}
use Rattle.rv_walk.specs.NearPair.{WasMade}
use Rattle.rv_walk.specs.Walked.{Walked, entries_of}

pub steps_of_entries : (hs : List ℕ) → steps (entries_of hs) ≡ hs
unfolding steps
steps_of_entries [] = refl
steps_of_entries (h ∷ hs) = ap (λ (ks : List ℕ). h ∷ ks) (steps_of_entries hs)

pub state_before : (start : State) (hs : List ℕ) (place : ℕ) → state_at start (entries_of hs) place ≡ run start (take place hs)
unfolding state_at
state_before start hs place = ap (λ es. run start (steps es)) (take-map Stepped place hs) ∙ ap (run start) (steps_of_entries (take place hs))

pub state_now : (start : State) (hs : List ℕ) → state_at start (entries_of hs) (length hs) ≡ run start hs
state_now start hs = state_before start hs (length hs) ∙ ap (run start) (take-length hs)

hart_at : (hs : List ℕ) (place : ℕ) → option_and_then stepped_hart (slice_get (map Stepped hs) place) ≡ slice_get hs place
hart_at [] place = refl
hart_at (h ∷ hs) zero = refl
hart_at (h ∷ hs) (suc place) = hart_at hs place

-- the same of an access, by the list of harts
pub record WasStep (start : State) (hs : List ℕ) (seen : Seen) : Type 0 where
  pub stepped : slice_get hs seen.place ≡ Some seen.hart
  pub state : State
  pub there : run start (take seen.place hs) ≡ Some state
  pub accessed : next_access state seen.hart ≡ Some seen.access

step_hart : (hs : List ℕ) (place : ℕ) → stepped_at (entries_of hs) place ≡ slice_get hs place
unfolding stepped_at
step_hart hs place = hart_at hs place

made_by : (start : State) (hs : List ℕ) (place hart : ℕ) → slice_get hs place ≡ Some hart → made start (entries_of hs) place ≡ option_and_then (λ s. next_access s hart) (run start (take place hs))
unfolding made next
made_by start hs place hart there =
    ap (option_and_then (λ h. option_and_then (λ s. next_access s h) (state_at start (entries_of hs) place))) (step_hart hs place ∙ there)
    ∙ ap (option_and_then (λ s. next_access s hart)) (state_before start hs place)

some_state : (o : Option State) (hart : ℕ) (access : Access) → option_and_then (λ s. next_access s hart) o ≡ Some access → (state : State) × (o ≡ Some state) × (next_access state hart ≡ Some access)
some_state None hart access is = cc
some_state (Some state) hart access is = (state, refl, is)

pub step_of_made : (walk : Walked) (seen : Seen) → WasMade walk seen → WasStep walk.start walk.harts seen
step_of_made walk seen was =
    let there : slice_get walk.harts seen.place ≡ Some seen.hart = sym (step_hart walk.harts seen.place) ∙ was.stepped in
    let it = some_state (run walk.start (take seen.place walk.harts)) seen.hart seen.access (sym (made_by walk.start walk.harts seen.place seen.hart there) ∙ was.accessed) in
    record { stepped = there; state = it.0; there = it.1; accessed = it.2 }

pub made_of_step : (walk : Walked) (seen : Seen) → WasStep walk.start walk.harts seen → WasMade walk seen
made_of_step walk seen was = record {
  stepped = step_hart walk.harts seen.place ∙ was.stepped;
  accessed = made_by walk.start walk.harts seen.place seen.hart was.stepped ∙ ap (option_and_then (λ s. next_access s seen.hart)) was.there ∙ was.accessed;
}
