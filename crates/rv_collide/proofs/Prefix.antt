-- What stands at the places of a list stays when an entry is added.
use Rattle.std.proofs.Common.{◌≡◌, ℕ, zero, suc, ◌≤◌, ◌<◌, List, [], ◌∷◌, ◌++◌, length, Option, Some, None, refl, sym, ap, ◌∙◌, arith}
use Rattle.std.specs.Prelude.{slice_get, option_and_then, filter_map}
use Rattle.std.proofs.lemmas.List.{append-nil, take-append-le}
use Rattle.std.proofs.lemmas.List.Elements.{filter_map-append}
use Rattle.std.proofs.Math.Seq.{take-length}
use Rattle.rv_collide.specs.Entries.{stepped_hart, steps, stepped_at}
use Rattle.rv_collide.specs.Made.{made}
use Rattle.rv_collide.specs.Next.{next}
use Rattle.rv_collide.specs.First.{seen_at}
use Rattle.rv_collide.specs.StateAt.{state_at}
use Rattle.rv_collide.specs.declared.entry.Entry.{Entry}
use Rattle.rv_collide.specs.declared.entry.Entry.TheVariants.{Stepped}
use Rattle.rv_hart.specs.Run.{run}
use Rattle.rv_hart.specs.State.{State}
use Rattle.rv_hart.specs.Step.{step_of}
use Rattle.rv_hart.specs.declared.access.Event.{Event}

pub get_front : {X : Type 0} → (xs ys : List X) (i : ℕ) → i < length xs → slice_get (xs ++ ys) i ≡ slice_get xs i
get_front [] ys i below = absurd (omega arith)
get_front (x ∷ xs) ys zero below = refl
get_front (x ∷ xs) ys (suc i) below = get_front xs ys i (omega arith)

pub get_last : {X : Type 0} → (xs : List X) (x : X) → slice_get (xs ++ x ∷ []) (length xs) ≡ Some x
get_last [] x = refl
get_last (y ∷ xs) x = get_last xs x

pub run_append : (s : State) (hs ks : List ℕ) → run s (hs ++ ks) ≡ option_and_then (λ t. run t ks) (run s hs)
run_append s [] ks = refl
run_append s (h ∷ hs) ks =
    elim (step_of s h) as (λ (o : Option (Event × State)). option_and_then (λ step. run step.1 (hs ++ ks)) o ≡ option_and_then (λ t. run t ks) (option_and_then (λ step. run step.1 hs) o)) [
      | None ↦ refl
      | Some step ↦ run_append step.1 hs ks
    ]

-- ---- places up to the end

pub state_front : (start : State) (xs ys : List Entry) (i : ℕ) → i ≤ length xs → state_at start (xs ++ ys) i ≡ state_at start xs i
unfolding state_at
state_front start xs ys i le = ap (λ zs. run start (steps zs)) (take-append-le i xs ys le)

pub next_front : (start : State) (xs ys : List Entry) (i h : ℕ) → i ≤ length xs → next start (xs ++ ys) i h ≡ next start xs i h
unfolding next
next_front start xs ys i h le = rw (state_front start xs ys i le) refl

pub stepped_front : (xs ys : List Entry) (i : ℕ) → i < length xs → stepped_at (xs ++ ys) i ≡ stepped_at xs i
unfolding stepped_at
stepped_front xs ys i below = ap (option_and_then stepped_hart) (get_front xs ys i below)

pub made_front : (start : State) (xs ys : List Entry) (i : ℕ) → i < length xs → made start (xs ++ ys) i ≡ made start xs i
unfolding made
made_front start xs ys i below =
    ap (option_and_then (λ h. next start (xs ++ ys) i h)) (stepped_front xs ys i below)
    ∙ elim (stepped_at xs i) as (λ (o : Option ℕ). option_and_then (λ h. next start (xs ++ ys) i h) o ≡ option_and_then (λ h. next start xs i h) o) [
      | None ↦ refl
      | Some h ↦ next_front start xs ys i h (omega arith)
    ]

pub seen_front : (start : State) (xs ys : List Entry) (i : ℕ) → i < length xs → seen_at start (xs ++ ys) i ≡ seen_at start xs i
unfolding seen_at
seen_front start xs ys i below = rw (made_front start xs ys i below, stepped_front xs ys i below) refl

-- ---- the state after one more entry

pub state_end : (start : State) (xs : List Entry) → state_at start xs (length xs) ≡ run start (steps xs)
unfolding state_at
state_end start xs = ap (λ zs. run start (steps zs)) (take-length xs)

pub steps_quiet : (xs : List Entry) (e : Entry) → stepped_hart e ≡ None → steps (xs ++ e ∷ []) ≡ steps xs
unfolding steps
steps_quiet xs e none = filter_map-append stepped_hart xs (e ∷ []) ∙ rw none (append-nil (filter_map stepped_hart xs))

pub steps_step : (xs : List Entry) (h : ℕ) → steps (xs ++ Stepped h ∷ []) ≡ steps xs ++ h ∷ []
unfolding steps
steps_step xs h = filter_map-append stepped_hart xs (Stepped h ∷ [])

pub state_quiet : (start : State) (xs : List Entry) (e : Entry) → stepped_hart e ≡ None → state_at start (xs ++ e ∷ []) (length (xs ++ e ∷ [])) ≡ state_at start xs (length xs)
state_quiet start xs e none = state_end start (xs ++ e ∷ []) ∙ ap (run start) (steps_quiet xs e none) ∙ sym (state_end start xs)

pub state_step : (start s t : State) (xs : List Entry) (h : ℕ) (event : Event) → state_at start xs (length xs) ≡ Some s → step_of s h ≡ Some (event, t) → state_at start (xs ++ Stepped h ∷ []) (length (xs ++ Stepped h ∷ [])) ≡ Some t
state_step start s t xs h event at step =
    state_end start (xs ++ Stepped h ∷ []) ∙ ap (run start) (steps_step xs h) ∙ run_append start (steps xs) (h ∷ [])
    ∙ ap (option_and_then (λ u. run u (h ∷ []))) (sym (state_end start xs) ∙ at)
    ∙ ap (option_and_then (λ (u : Event × State). Some u.1)) step
