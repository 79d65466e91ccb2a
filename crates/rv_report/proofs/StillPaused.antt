-- From one place of a schedule to another: permissions stay, and so does a hart that makes no step.
use Rattle.std.proofs.Common.{◌≡◌, ◌≢◌, ℕ, zero, suc, ◌+◌, ◌≤◌, ◌<◌, true, false, cond, List, [], ◌∷◌, ◌++◌, take, Option, Some, None, refl, sym, ap, subst, ◌∙◌, arith, add-one}
use Rattle.std.specs.Prelude.{slice_get, option_and_then, IsSomeAnd}
use Rattle.rv_collide.specs.Entries.{steps, stepped_hart}
use Rattle.rv_collide.specs.declared.entry.Entry.{Entry}
use Rattle.rv_collide.specs.declared.entry.Entry.TheVariants.{Stepped, Paused, Resumed, Armed, Disarmed}
use Rattle.rv_hart.specs.Run.{run}
use Rattle.rv_hart.specs.State.{State, is_running}
use Rattle.rv_hart.specs.Step.{action_at, memory_after, step_by, step_of, step_of_hart, loaded_by, written_by}
use Rattle.rv_hart.specs.StepLaws.{OtherHartsStay, SameButReservation}
use Rattle.rv_hart.specs.declared.access.Event.{Event}
use Rattle.rv_hart.specs.declared.hart.Hart.{Hart}
use Rattle.rv_hart.specs.declared.write.Write.{Write}
use Rattle.rv_memory.specs.Memory.{Memory}
use Rattle.rv_memory.specs.MemoryLaws.{StoreKeepsPermissions}
use Rattle.rv_report.specs.internal.Paused.{with_step}
use Rattle.rv_report.proofs.SameStep.{SamePermissions, with_reservation}

some_same : {A : Type 0} → (x y : A) → Some x ≡ Some y → x ≡ y
some_same x y h = cc

-- ---- permissions

written : StoreKeepsPermissions → (m : Memory) (w : Option Write) → SamePermissions m (memory_after m w)
written law m None = λ address size need. refl
written law m (Some w) = λ address size need. law m w.address w.size w.value address size need

step_permits : StoreKeepsPermissions → (s t : State) (h : ℕ) (e : Event) (o : Option Hart) → step_of_hart s h o ≡ Some (e, t) → SamePermissions s.memory t.memory
step_permits law s t h e None step = cc
step_permits law s t h e (Some a) step =
    elim (is_running a.status) as (λ b. cond b (Some (step_by s h a (action_at s.memory a))) None ≡ Some (e, t) → SamePermissions s.memory t.memory) [
      | true ↦ λ is.
          let same : (step_by s h a (action_at s.memory a)).1 ≡ t = ap (λ (p : Event × State). p.1) (some_same (step_by s h a (action_at s.memory a)) (e, t) is) in
          subst (λ (u : State). SamePermissions s.memory u.memory) same (written law s.memory (written_by (loaded_by s.memory (action_at s.memory a)) a (action_at s.memory a)))
      | false ↦ λ is. cc
    ] step

pub run_permits : StoreKeepsPermissions → (hs : List ℕ) (s t : State) → run s hs ≡ Some t → SamePermissions s.memory t.memory
unfolding step_of
run_permits law [] s t is = subst (λ (u : State). SamePermissions s.memory u.memory) (some_same s t is) (λ address size need. refl)
run_permits law (h ∷ hs) s t is =
    elim (step_of s h) as (λ (o : Option (Event × State)). step_of s h ≡ o → option_and_then (λ step. run step.1 hs) o ≡ Some t → SamePermissions s.memory t.memory) [
      | None ↦ λ step rest. cc
      | Some (e, u) ↦ λ step rest address size need. run_permits law hs u t rest address size need ∙ step_permits law s u h e (slice_get s.harts h) step address size need
    ] refl is

-- ---- a hart that makes no step

-- hart h is the one given, but for its reservation
pub record Stays (t : State) (h : ℕ) (a : Hart) : Type 0 where
  pub reservation : Option ℕ
  pub still : slice_get t.harts h ≡ Some (with_reservation a reservation)

same_hart : (a b : Hart) → SameButReservation a b → b ≡ with_reservation a b.reservation
same_hart a b is = rw (← is.registers, ← is.pc, ← is.status) refl

found : (t : State) (h : ℕ) (a : Hart) (o : Option Hart) → slice_get t.harts h ≡ o → IsSomeAnd o (SameButReservation a) → Stays t h a
found t h a None there is = absurd is
found t h a (Some b) there is = record { reservation = b.reservation; still = there ∙ ap Some (same_hart a b is) }

stays_on : OtherHartsStay → (s t : State) (h k : ℕ) (e : Event) (a : Hart) → Stays s h a → step_of s k ≡ Some (e, t) → h ≢ k → Stays t h a
stays_on law s t h k e a stays step other =
    let f = found t h (with_reservation a stays.reservation) (slice_get t.harts h) refl (law s t k e step h other (with_reservation a stays.reservation) stays.still) in
    record { reservation = f.reservation; still = f.still }

-- none of the steps of the first entries is hart h's
abbrev pub IsStill : List Entry → ℕ → ℕ → ℕ → Type 0
IsStill xs i j h = (at : ℕ) → i ≤ at → at < j → option_and_then stepped_hart (slice_get xs at) ≢ Some h

same_state : (s t : State) (h : ℕ) (a : Hart) → Some s ≡ Some t → Stays s h a → Stays t h a
same_state s t h a is stays = subst (λ (u : State). Stays u h a) (some_same s t is) stays

deeper : (x : Entry) (xs : List Entry) (i j h : ℕ) → IsStill (x ∷ xs) (suc i) (suc j) h → IsStill xs i j h
deeper x xs i j h still at from below = still (suc at) (omega arith) (omega arith)

from_first : (x : Entry) (xs : List Entry) (j h : ℕ) → IsStill (x ∷ xs) 0 (suc j) h → IsStill xs 0 j h
from_first x xs j h still at from below = still (suc at) (omega arith) (omega arith)

still_run : OtherHartsStay → (xs : List Entry) (j : ℕ) (s t : State) (h : ℕ) (a : Hart) → Stays s h a → run s (steps (take j xs)) ≡ Some t → IsStill xs 0 j h → Stays t h a
unfolding steps
still_run law xs zero s t h a stays is still = same_state s t h a is stays
still_run law [] (suc j) s t h a stays is still = same_state s t h a is stays
still_run law (Stepped k ∷ xs) (suc j) s t h a stays is still =
    elim (step_of s k) as (λ (o : Option (Event × State)). step_of s k ≡ o → option_and_then (λ step. run step.1 (steps (take j xs))) o ≡ Some t → Stays t h a) [
      | None ↦ λ step rest. cc
      | Some (e, u) ↦ λ step rest.
          still_run law xs j u t h a (stays_on law s u h k e a stays step (λ same. still 0 (omega arith) (omega arith) (ap Some (sym same)))) rest (from_first (Stepped k) xs j h still)
    ] refl is
still_run law (Paused k slot ∷ xs) (suc j) s t h a stays is still = still_run law xs j s t h a stays is (from_first (Paused k slot) xs j h still)
still_run law (Resumed k ∷ xs) (suc j) s t h a stays is still = still_run law xs j s t h a stays is (from_first (Resumed k) xs j h still)
still_run law (Armed k ∷ xs) (suc j) s t h a stays is still = still_run law xs j s t h a stays is (from_first (Armed k) xs j h still)
still_run law (Disarmed k ∷ xs) (suc j) s t h a stays is still = still_run law xs j s t h a stays is (from_first (Disarmed k) xs j h still)

-- a hart that makes no step from place i to place j is at j what it was at i
pub still_from : OtherHartsStay → (xs : List Entry) (i j : ℕ) (first s t : State) (h : ℕ) (a : Hart) → i ≤ j → run first (steps (take i xs)) ≡ Some s → run first (steps (take j xs)) ≡ Some t → slice_get s.harts h ≡ Some a → IsStill xs i j h → Stays t h a
unfolding steps
still_from law xs zero j first s t h a le at until there still =
    still_run law xs j first t h a (record { reservation = a.reservation; still = ap (λ (u : State). slice_get u.harts h) (some_same first s at) ∙ there }) until still
still_from law xs (suc i) zero first s t h a le at until there still = absurd (omega arith)
still_from law [] (suc i) (suc j) first s t h a le at until there still =
    same_state s t h a (sym at ∙ until) (record { reservation = a.reservation; still = there })
still_from law (Stepped k ∷ xs) (suc i) (suc j) first s t h a le at until there still =
    elim (step_of first k) as (λ (o : Option (Event × State)). option_and_then (λ step. run step.1 (steps (take i xs))) o ≡ Some s → option_and_then (λ step. run step.1 (steps (take j xs))) o ≡ Some t → Stays t h a) [
      | None ↦ λ one other. cc
      | Some (e, u) ↦ λ one other. still_from law xs i j u s t h a (omega arith) one other there (deeper (Stepped k) xs i j h still)
    ] at until
still_from law (Paused k slot ∷ xs) (suc i) (suc j) first s t h a le at until there still = still_from law xs i j first s t h a (omega arith) at until there (deeper (Paused k slot) xs i j h still)
still_from law (Resumed k ∷ xs) (suc i) (suc j) first s t h a le at until there still = still_from law xs i j first s t h a (omega arith) at until there (deeper (Resumed k) xs i j h still)
still_from law (Armed k ∷ xs) (suc i) (suc j) first s t h a le at until there still = still_from law xs i j first s t h a (omega arith) at until there (deeper (Armed k) xs i j h still)
still_from law (Disarmed k ∷ xs) (suc i) (suc j) first s t h a le at until there still = still_from law xs i j first s t h a (omega arith) at until there (deeper (Disarmed k) xs i j h still)

-- ---- one more step

-- the steps with the one at a place
pub steps_with : (xs : List Entry) (place k : ℕ) → option_and_then stepped_hart (slice_get xs place) ≡ Some k → steps (take (suc place) xs) ≡ steps (take place xs) ++ k ∷ []
unfolding steps
steps_with [] place k there = cc
steps_with (Stepped h ∷ xs) zero k there = ap (λ (n : ℕ). n ∷ []) (some_same h k there)
steps_with (Paused h slot ∷ xs) zero k there = cc
steps_with (Resumed h ∷ xs) zero k there = cc
steps_with (Armed a ∷ xs) zero k there = cc
steps_with (Disarmed a ∷ xs) zero k there = cc
steps_with (Stepped h ∷ xs) (suc place) k there = ap (λ (ns : List ℕ). h ∷ ns) (steps_with xs place k there)
steps_with (Paused h slot ∷ xs) (suc place) k there = steps_with xs place k there
steps_with (Resumed h ∷ xs) (suc place) k there = steps_with xs place k there
steps_with (Armed a ∷ xs) (suc place) k there = steps_with xs place k there
steps_with (Disarmed a ∷ xs) (suc place) k there = steps_with xs place k there

-- a run and one step more
pub run_on : (hs : List ℕ) (s t u : State) (k : ℕ) (e : Event) → run s hs ≡ Some t → step_of t k ≡ Some (e, u) → run s (hs ++ k ∷ []) ≡ Some u
run_on [] s t u k e is step =
    ap (λ (o : Option (Event × State)). option_and_then (λ (p : Event × State). Some p.1) o) (ap (λ (v : State). step_of v k) (some_same s t is) ∙ step)
run_on (h ∷ hs) s t u k e is step =
    elim (step_of s h) as (λ (o : Option (Event × State)). option_and_then (λ p. run p.1 hs) o ≡ Some t → option_and_then (λ p. run p.1 (hs ++ k ∷ [])) o ≡ Some u) [
      | None ↦ λ rest. cc
      | Some (f, v) ↦ λ rest. run_on hs v t u k e rest step
    ] is

-- and back: the last step of a run
pub last_step : (hs : List ℕ) (s t u : State) (k : ℕ) → run s hs ≡ Some t → run s (hs ++ k ∷ []) ≡ Some u → (e : Event) × (step_of t k ≡ Some (e, u))
last_step [] s t u k is on =
    elim (step_of s k) as (λ (o : Option (Event × State)). step_of s k ≡ o → option_and_then (λ (p : Event × State). Some p.1) o ≡ Some u → (e : Event) × (step_of t k ≡ Some (e, u))) [
      | None ↦ λ step rest. cc
      | Some (e, v) ↦ λ step rest. (e, ap (λ (w : State). step_of w k) (sym (some_same s t is)) ∙ step ∙ ap (λ (w : State). Some (e, w)) (some_same v u rest))
    ] refl on
last_step (h ∷ hs) s t u k is on =
    elim (step_of s h) as (λ (o : Option (Event × State)). option_and_then (λ p. run p.1 hs) o ≡ Some t → option_and_then (λ p. run p.1 (hs ++ k ∷ [])) o ≡ Some u → (e : Event) × (step_of t k ≡ Some (e, u))) [
      | None ↦ λ one other. cc
      | Some (f, v) ↦ λ one other. last_step hs v t u k one other
    ] is on

pub steps_without : (xs : List Entry) (place : ℕ) → option_and_then stepped_hart (slice_get xs place) ≡ None → steps (take (suc place) xs) ≡ steps (take place xs)
unfolding steps
steps_without [] zero none = refl
steps_without [] (suc place) none = refl
steps_without (Stepped h ∷ xs) zero none = cc
steps_without (Paused h slot ∷ xs) zero none = refl
steps_without (Resumed h ∷ xs) zero none = refl
steps_without (Armed a ∷ xs) zero none = refl
steps_without (Disarmed a ∷ xs) zero none = refl
steps_without (Stepped h ∷ xs) (suc place) none = ap (λ (ns : List ℕ). h ∷ ns) (steps_without xs place none)
steps_without (Paused h slot ∷ xs) (suc place) none = steps_without xs place none
steps_without (Resumed h ∷ xs) (suc place) none = steps_without xs place none
steps_without (Armed a ∷ xs) (suc place) none = steps_without xs place none
steps_without (Disarmed a ∷ xs) (suc place) none = steps_without xs place none

-- the harts of the steps when one more entry is passed
stepped_one : (xs : List Entry) (place : ℕ) (e : Entry) (o : Option ℕ) → slice_get xs place ≡ Some e → stepped_hart e ≡ o → option_and_then stepped_hart (slice_get xs place) ≡ o
stepped_one xs place e o there is = ap (option_and_then stepped_hart) there ∙ is

quiet : (harts : List ℕ) (xs : List Entry) (place : ℕ) (e : Entry) → slice_get xs place ≡ Some e → stepped_hart e ≡ None → harts ≡ steps (take place xs) → harts ≡ steps (take (place + 1) xs)
quiet harts xs place e there none so_far =
    so_far ∙ sym (ap (λ (n : ℕ). steps (take n xs)) (add-one place) ∙ steps_without xs place (stepped_one xs place e None there none))

pub steps_passed : (harts : List ℕ) (xs : List Entry) (place : ℕ) (e : Entry) → slice_get xs place ≡ Some e → harts ≡ steps (take place xs) → with_step harts e ≡ steps (take (place + 1) xs)
steps_passed harts xs place (Stepped k) there so_far =
    ap (λ (ns : List ℕ). ns ++ k ∷ []) so_far
    ∙ sym (ap (λ (n : ℕ). steps (take n xs)) (add-one place) ∙ steps_with xs place k (stepped_one xs place (Stepped k) (Some k) there refl))
steps_passed harts xs place (Paused k slot) there so_far = quiet harts xs place (Paused k slot) there refl so_far
steps_passed harts xs place (Resumed k) there so_far = quiet harts xs place (Resumed k) there refl so_far
steps_passed harts xs place (Armed a) there so_far = quiet harts xs place (Armed a) there refl so_far
steps_passed harts xs place (Disarmed a) there so_far = quiet harts xs place (Disarmed a) there refl so_far
