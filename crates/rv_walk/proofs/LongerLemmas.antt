-- What holds of a walk that has made one more step.
use Rattle.std.proofs.Common.{◌≡◌, ℕ, zero, suc, ◌<◌, List, [], ◌∷◌, ◌++◌, length, take, Option, Some, None, refl, ap, ◌∙◌, arith}
use Rattle.std.specs.Prelude.{slice_get, option_and_then}
use Rattle.std.proofs.lemmas.List.{take-append-le, take_at}
use Rattle.std.proofs.lemmas.List.Elements.{All-weaker}
use Rattle.rv_break.specs.declared.claim.Seen.{Seen}
use Rattle.rv_hart.specs.NextAccess.{accessed}
use Rattle.rv_hart.specs.ReservationLaws.{NextIsMade}
use Rattle.rv_hart.specs.Run.{run}
use Rattle.rv_hart.specs.State.{State}
use Rattle.rv_hart.specs.Step.{step_of}
use Rattle.rv_hart.specs.declared.access.Access.{Access}
use Rattle.rv_hart.specs.declared.access.Event.{Event}
use Rattle.rv_walk.proofs.EntriesLemmas.{made_of_step, step_of_made}
use Rattle.rv_walk.specs.NearPair.{IsNearPair, WasMade}
use Rattle.rv_walk.specs.Walked.{Walked}
use Rattle.rv_walk.specs.declared.accesses.Accesses.{Accesses}
use Rattle.rv_walk.specs.declared.accesses.Kept.{Kept}
use Rattle.rv_walk.specs.declared.near_pair.NearPair.{NearPair}
use Rattle.rv_walk.specs.internal.Inside.{AreOf}

pub run_append : (s : State) (hs ks : List ℕ) → run s (hs ++ ks) ≡ option_and_then (λ t. run t ks) (run s hs)
run_append s [] ks = refl
run_append s (h ∷ hs) ks =
    elim (step_of s h) as (λ (o : Option (Event × State)). option_and_then (λ step. run step.1 (hs ++ ks)) o ≡ option_and_then (λ t. run t ks) (option_and_then (λ step. run step.1 hs) o)) [
      | None ↦ refl
      | Some step ↦ run_append step.1 hs ks
    ]

pub run_on : (s t u : State) (hs ks : List ℕ) → run s hs ≡ Some t → run t ks ≡ Some u → run s (hs ++ ks) ≡ Some u
run_on s t u hs ks there on = run_append s hs ks ∙ ap (option_and_then (λ v. run v ks)) there ∙ on

pub run_one : (s t : State) (h : ℕ) (event : Event) → step_of s h ≡ Some (event, t) → run s (h ∷ []) ≡ Some t
run_one s t h event step = ap (option_and_then (λ (made : Event × State). run made.1 [])) step

pub run_more : (s t u : State) (hs : List ℕ) (h : ℕ) (event : Event) → run s hs ≡ Some t → step_of t h ≡ Some (event, u) → run s (hs ++ h ∷ []) ≡ Some u
run_more s t u hs h event there step = run_on s t u hs (h ∷ []) there (run_one t u h event step)

get_front : {X : Type 0} → (xs ys : List X) (i : ℕ) (x : X) → slice_get xs i ≡ Some x → slice_get (xs ++ ys) i ≡ Some x
get_front [] ys i x is = cc
get_front (y ∷ xs) ys zero x is = is
get_front (y ∷ xs) ys (suc i) x is = get_front xs ys i x is

pub get_last : {X : Type 0} → (xs : List X) (x : X) → slice_get (xs ++ x ∷ []) (length xs) ≡ Some x
get_last [] x = refl
get_last (y ∷ xs) x = get_last xs x

get_within : {X : Type 0} → (xs : List X) (i : ℕ) (x : X) → slice_get xs i ≡ Some x → i < length xs
get_within [] i x is = cc
get_within (y ∷ xs) zero x is = omega arith
get_within (y ∷ xs) (suc i) x is = let h : i < length xs = get_within xs i x is in omega arith

take_whole : (xs ys : List ℕ) → take (length xs) (xs ++ ys) ≡ xs
take_whole xs ys = take_at xs ys (length xs) refl

abbrev pub with_steps : Walked → List ℕ → Walked
with_steps walk hs = record walk { harts = walk.harts ++ hs }

-- what was made is made in each longer walk
pub made_longer : (walk : Walked) (hs : List ℕ) (seen : Seen) → WasMade walk seen → WasMade (with_steps walk hs) seen
made_longer walk hs seen was =
    let made = step_of_made walk seen was in
    let below : seen.place < length walk.harts = get_within walk.harts seen.place seen.hart made.stepped in
    let same : take seen.place (walk.harts ++ hs) ≡ take seen.place walk.harts = take-append-le seen.place walk.harts hs (omega arith) in
    made_of_step (with_steps walk hs) seen (record {
      stepped = get_front walk.harts hs seen.place seen.hart made.stepped;
      state = made.state;
      there = ap (run walk.start) same ∙ made.there;
      accessed = made.accessed;
    })

pub near_longer : (walk : Walked) (hs : List ℕ) (pair : NearPair) → IsNearPair walk pair → IsNearPair (with_steps walk hs) pair
near_longer walk hs pair is = record {
  first = made_longer walk hs pair.first is.first;
  second = made_longer walk hs pair.second is.second;
  near = is.near;
}

pub accesses_longer : (walk : Walked) (hs : List ℕ) (accesses : Accesses) → AreOf walk accesses → AreOf (with_steps walk hs) accesses
accesses_longer walk hs accesses are = record {
  made = All-weaker (λ (kept : Kept). WasMade walk kept.seen) (λ (kept : Kept). WasMade (with_steps walk hs) kept.seen) (λ kept. made_longer walk hs kept.seen) accesses.kept.items are.made;
  near = All-weaker (IsNearPair walk) (IsNearPair (with_steps walk hs)) (near_longer walk hs) accesses.closest are.near;
}

-- the access of the step that was just made
pub last_made : NextIsMade → (walk : Walked) (s t : State) (h : ℕ) (event : Event) (access : Access) → run walk.start walk.harts ≡ Some s → step_of s h ≡ Some (event, t) → accessed event ≡ Some access → WasMade (with_steps walk (h ∷ [])) (record { place = length walk.harts; hart = h; access = access })
last_made next_is walk s t h event access there step is = made_of_step (with_steps walk (h ∷ [])) (record { place = length walk.harts; hart = h; access = access }) (record {
  stepped = get_last walk.harts h;
  state = s;
  there = ap (run walk.start) (take_whole walk.harts (h ∷ [])) ∙ there;
  accessed = next_is s t h event step ∙ is;
})
