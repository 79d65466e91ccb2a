-- The state that one more entry leads to, and what is shown of it.
use Rattle.std.proofs.Common.{◌≡◌, ℕ, ◌+◌, ◌<◌, List, [], ◌∷◌, ◌++◌, Option, Some, None, get_or, length, map, replicate, slice_get, take, zero, suc, refl, ap, sym, subst, inl, inr, ◌∙◌, arith, length-append}
use Rattle.std.specs.Prelude.{◌⊎◌, option_and_then}
use Rattle.std.specs.Option.{option_to_list}
use Rattle.std.proofs.lemmas.List.{take_more}
use Rattle.std.proofs.lemmas.List.Elements.{filter_map-append}
use Rattle.rv_collide.specs.Entries.{stepped_hart, steps}
use Rattle.rv_collide.specs.StateAt.{state_at}
use Rattle.rv_collide.specs.declared.entry.Entry.{Entry}
use Rattle.rv_collide.specs.declared.entry.Entry.TheVariants.{Stepped, Paused, Resumed, Armed, Disarmed}
use Rattle.rv_elf.specs.Contents.{Contents}
use Rattle.rv_explain.specs.Stuck.{AreCalled, IsCalled, IsShownEnd, does_after, shown_as}
use Rattle.rv_explain.specs.declared.stuck.StuckBlock.{StuckBlock}
use Rattle.rv_explain.specs.declared.stuck.StuckHart.{StuckHart}
use Rattle.rv_hart.specs.Run.{run}
use Rattle.rv_hart.specs.State.{State}
use Rattle.rv_hart.specs.Step.{step_of}
use Rattle.rv_hart.specs.declared.access.Event.{Event}
use Rattle.rv_stuck.specs.StuckEnd.{IsStuckEnd}
use Rattle.rv_stuck.specs.declared.stuck.StuckEnd.{StuckEnd}

run_append : (s : State) (hs ks : List ℕ) → run s (hs ++ ks) ≡ option_and_then (λ t. run t ks) (run s hs)
run_append s [] ks = refl
run_append s (h ∷ hs) ks =
    elim (step_of s h) as (λ (o : Option (Event × State)). option_and_then (λ step. run step.1 (hs ++ ks)) o ≡ option_and_then (λ t. run t ks) (option_and_then (λ step. run step.1 hs) o)) [
      | None ↦ refl
      | Some step ↦ run_append step.1 hs ks
    ]

steps_of_one : (entry : Entry) → steps (entry ∷ []) ≡ option_to_list (stepped_hart entry)
unfolding steps
steps_of_one (Stepped hart) = refl
steps_of_one (Paused hart slot) = refl
steps_of_one (Resumed hart) = refl
steps_of_one (Armed address) = refl
steps_of_one (Disarmed address) = refl

steps_more : (entries : List Entry) (entry : Entry) → steps (entries ++ entry ∷ []) ≡ steps entries ++ option_to_list (stepped_hart entry)
unfolding steps
steps_more entries entry = filter_map-append stepped_hart entries (entry ∷ []) ∙ ap (λ hs. steps entries ++ hs) (steps_of_one entry)

-- the state at the next place, by the entry at this one
pub state_next : (start s t : State) (entries : List Entry) (place : ℕ) (other : Entry) → place < length entries → state_at start entries place ≡ Some s
    → run s (option_to_list (stepped_hart (get_or entries place other))) ≡ Some t → state_at start entries (place + 1) ≡ Some t
unfolding state_at
state_next start s t entries place other below here on =
    let entry : Entry = get_or entries place other in
    ap (λ es. run start (steps es)) (take_more entries place other below)
    ∙ ap (run start) (steps_more (take place entries) entry)
    ∙ run_append start (steps (take place entries)) (option_to_list (stepped_hart entry))
    ∙ ap (option_and_then (λ u. run u (option_to_list (stepped_hart entry)))) here
    ∙ on

-- the harts of a stuck end of the schedule's state are shown
pub shown_end : (image : Contents) (start s : State) (entries : List Entry) (block : StuckBlock) (end : StuckEnd) → state_at start entries (length entries) ≡ Some s → IsStuckEnd s end
    → map shown_as block.harts.items ≡ map (does_after start entries s.memory) end.harts.items → AreCalled image s block.harts.items → IsShownEnd image start entries block
shown_end image start s entries block end at is shown called = rw at (record { end = end; is_stuck = is; are_shown = shown; are_called = called })

-- one hart more, behind those before
behind : {X : Type 0} (xs : List X) (x : X) (place : ℕ) (one : X) → slice_get (xs ++ x ∷ []) place ≡ Some one → (slice_get xs place ≡ Some one) ⊎ ((place ≡ length xs) × (x ≡ one))
behind [] x zero one there = inr (refl, (let same : Some x ≡ Some one = there in cc))
behind [] x (suc place) one there = (let no : None ≡ Some one = there in cc)
behind (y ∷ xs) x zero one there = inl there
behind (y ∷ xs) x (suc place) one there =
    elim (behind xs x place one there) [
      | inl before ↦ inl before
      | inr both ↦ inr (ap (λ n. suc n) both.0, both.1)
    ]

pub called_more : (image : Contents) (s : State) (harts next : List StuckHart) (hart : StuckHart) (h : ℕ) → next ≡ harts ++ hart ∷ [] → length harts ≡ h → AreCalled image s harts → IsCalled image s h hart → AreCalled image s next
called_more image s harts next hart h is count so_far called = λ place one there.
    elim (behind harts hart place one (ap (λ xs. slice_get xs place) (sym is) ∙ there)) [
      | inl before ↦ so_far place one before
      | inr both ↦ subst (λ n. IsCalled image s n one) (sym (both.0 ∙ count)) (subst (IsCalled image s h) both.1 called)
    ]

pub pushed : {X : Type 0} (xs next : List X) (x : X) (n : ℕ) → next ≡ xs ++ x ∷ [] → length xs ≡ n → length next ≡ n + 1
pushed xs next x n is count = ap length is ∙ length-append xs (x ∷ []) ∙ ap (λ k. k + 1) count

-- a hart makes one step more
pub run_again : (s t u : State) (h count : ℕ) (event : Event) → run s (replicate count h) ≡ Some t → step_of t h ≡ Some (event, u) → run s (replicate (count + 1) h) ≡ Some u
run_again s t u h count event there made =
    let on : count + 1 ≡ suc count = omega arith in
    ap (λ n. run s (replicate n h)) on ∙ ap (run s) (replicate_last count h) ∙ run_append s (replicate count h) (h ∷ []) ∙ ap (option_and_then (λ x. run x (h ∷ []))) there ∙ ap (option_and_then (λ (step : Event × State). Some step.1)) made
  where
    replicate_last : (count h : ℕ) → replicate (suc count) h ≡ replicate count h ++ h ∷ []
    replicate_last zero h = refl
    replicate_last (suc count) h = ap (λ l. h ∷ l) (replicate_last count h)
