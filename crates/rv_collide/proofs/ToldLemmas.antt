-- The core after the entries before a place.
use Rattle.std.proofs.Common.{◌≡◌, ℕ, zero, suc, ◌+◌, List, [], ◌∷◌, ◌++◌, length, take, Option, Some, None, Ok, refl, sym, ap, subst, ◌∙◌, add-one}
use Rattle.std.specs.Prelude.{slice_get, option_and_then}
use Rattle.std.proofs.Math.Seq.{take-length}
use Rattle.rv_collide.specs.Entries.{stepped_at, stepped_hart}
use Rattle.rv_collide.specs.Forced.{forced}
use Rattle.rv_collide.specs.Legal.{IsLegal, call_of}
use Rattle.rv_collide.specs.Made.{made}
use Rattle.rv_collide.specs.Next.{next}
use Rattle.rv_collide.specs.StateAt.{state_at}
use Rattle.rv_collide.specs.Stored.{Stored, added, setting_of, stored}
use Rattle.rv_collide.specs.Told.{IsToldUpTo}
use Rattle.rv_collide.specs.Entries.{steps}
use Rattle.rv_collide.specs.declared.entry.Entry.{Entry}
use Rattle.rv_collide.specs.internal.Told.{accessed_by}
use Rattle.rv_hart.specs.NextAccess.{access_of_step, accessed, next_access}
use Rattle.rv_hart.specs.Run.{run}
use Rattle.rv_hart.specs.State.{State}
use Rattle.rv_hart.specs.Step.{step_of}
use Rattle.rv_hart.specs.declared.access.Event.{Event}

-- a step's event tells what the hart would access next
pub next_event : (start : State) (xs : List Entry) (place h : ℕ) (s t : State) (e : Event) → state_at start xs place ≡ Some s → step_of s h ≡ Some (e, t) → accessed e ≡ next start xs place h
unfolding next next_access
next_event start xs place h s t e at step =
    sym (ap (option_and_then (λ (u : State). access_of_step (step_of u h))) at ∙ ap access_of_step step)

-- the state of the first entries, told of them alone
pub state_here : (start : State) (xs : List Entry) (place : ℕ) → state_at start (take place xs) (length (take place xs)) ≡ state_at start xs place
unfolding state_at
state_here start xs place = ap (λ ys. run start (steps ys)) (take-length (take place xs))

pub next_here : (start : State) (xs : List Entry) (place h : ℕ) → next start (take place xs) (length (take place xs)) h ≡ next start xs place h
unfolding next
next_here start xs place h = ap (option_and_then (λ (s : State). next_access s h)) (state_here start xs place)

take_one : (xs : List Entry) (i : ℕ) (e : Entry) → slice_get xs i ≡ Some e → take (i + 1) xs ≡ take i xs ++ e ∷ []
take_one [] i e there = cc
take_one (x ∷ xs) zero e there = let same : x ≡ e = cc in ap (λ (y : Entry). y ∷ []) same
take_one (x ∷ xs) (suc i) e there =
    rw (add-one (suc i)) (ap (λ ys. x ∷ ys) (subst (λ (n : ℕ). take n xs ≡ take i xs ++ e ∷ []) (add-one i) (take_one xs i e there)))

module _ (c : Stored) (xs : List Entry) (i : ℕ) (e : Entry) (here : IsToldUpTo c xs i) (there : slice_get xs i ≡ Some e) where
  pub forced_here : IsLegal (setting_of c) xs → forced (setting_of c) c.entries (call_of e) ≡ Ok e
  forced_here legal = subst (λ (ys : List Entry). forced (setting_of c) ys (call_of e) ≡ Ok e) (sym here) (legal i e there)

  pub one_more : (new : Stored) → new ≡ added c e → new ≡ stored c.image c.plan (take (i + 1) xs)
  one_more new adds = adds ∙ ap (λ (ys : List Entry). stored c.image c.plan (ys ++ e ∷ [])) here ∙ ap (stored c.image c.plan) (sym (take_one xs i e there))

  made_here : (o : Option ℕ) → o ≡ stepped_at xs i → option_and_then (λ h. next (setting_of c).start (take i xs) (length (take i xs)) h) o ≡ made (setting_of c).start xs i
  unfolding made
  made_here o at =
      elim o as (λ (o : Option ℕ). option_and_then (λ h. next (setting_of c).start (take i xs) (length (take i xs)) h) o ≡ option_and_then (λ h. next (setting_of c).start xs i h) o) [
        | None ↦ refl
        | Some h ↦ next_here (setting_of c).start xs i h
      ]
      ∙ ap (option_and_then (λ h. next (setting_of c).start xs i h)) at

  stepped_there : stepped_hart e ≡ stepped_at xs i
  unfolding stepped_at
  stepped_there = sym (ap (option_and_then stepped_hart) there)

  pub accessed_here : accessed_by c e ≡ made (setting_of c).start xs i
  accessed_here =
      ap (λ (ys : List Entry). option_and_then (λ h. next (setting_of c).start ys (length ys) h) (stepped_hart e)) here
      ∙ made_here (stepped_hart e) stepped_there
