-- A part, told from its walk's begin.
use Rattle.std.proofs.Common.{◌≡◌, ℕ, zero, suc, ◌+◌, ◌^◌, ◌≤◌, ◌<◌, Option, List, [], ◌∷◌, ◌++◌, length, take, Some, None, refl, sym, ap, subst, ◌∙◌, arith}
use Rattle.std.specs.Prelude.{IfOk, Ok, Err, Result, count_by, min, filter_map, map, option_and_then, option_map, slice_get}
use Rattle.std.specs.List.{cons_option}
use Rattle.std.proofs.lemmas.List.{length-map, length-take}
use Rattle.rv_collide.specs.Armed.{arms}
use Rattle.rv_collide.specs.Entries.{places, steps}
use Rattle.rv_collide.specs.First.{paused_access}
use Rattle.rv_collide.specs.Joined.{Fork, GoesOnFrom, IsWhole as IsJoinedWhole}
use Rattle.rv_collide.specs.Legal.{IsLegal}
use Rattle.rv_collide.specs.Numbers.{numbers}
use Rattle.rv_collide.specs.Pause.{Pause, ended, opening_of, pause_ended, resumed_hart}
use Rattle.rv_collide.specs.Plan.{IsPlan, Numbers}
use Rattle.rv_collide.specs.Verdict.{ending, ending_at, endings}
use Rattle.rv_collide.specs.declared.collider.Finished.{Finished}
use Rattle.rv_collide.specs.declared.ending.Ending.{Ending}
use Rattle.rv_collide.specs.declared.entry.Entry.{Entry}
use Rattle.rv_collide.specs.declared.entry.Entry.TheVariants.{Stepped}
use Rattle.rv_collide.specs.declared.plan.TheConstants.{MOST_ARMS, MOST_STEPS}
use Rattle.rv_hart.specs.State.{State}
use Rattle.rv_walk.specs.Part.{IsPart, IsWhole}
use Rattle.rv_walk.specs.Walked.{Walked, entries_of}
use Rattle.rv_walk.specs.declared.course.TheConstants.{MOST_WALKED}
use Rattle.rv_walk.specs.declared.probes.Part.{Part}
use Rattle.rv_walk.proofs.EntriesLemmas.{steps_of_entries}
use Rattle.rv_walk.proofs.LegalLemmas.{prefix}

no_arms : (hs : List ℕ) → count_by arms (entries_of hs) ≡ 0
no_arms [] = refl
no_arms (h ∷ hs) = no_arms hs

none_resumed : (hs : List ℕ) (place : ℕ) → option_and_then resumed_hart (slice_get (map Stepped hs) place) ≡ None
none_resumed [] place = refl
none_resumed (h ∷ hs) zero = refl
none_resumed (h ∷ hs) (suc place) = none_resumed hs place

none_ended : (hs : List ℕ) (place : ℕ) → pause_ended (entries_of hs) place ≡ None
unfolding pause_ended
none_ended hs place =
    ap (option_and_then (λ hart. option_map (ended place) (opening_of (take place (entries_of hs)) hart))) (none_resumed hs place)

no_ending : (start : State) (hs : List ℕ) (place : ℕ) → ending_at start (entries_of hs) place ≡ None
unfolding ending_at
no_ending start hs place =
    ap (option_and_then (λ (pause : Pause). option_map (ending start (entries_of hs) pause) (paused_access start (entries_of hs) pause))) (none_ended hs place)

none_of : (start : State) (hs ps : List ℕ) → filter_map (ending_at start (entries_of hs)) ps ≡ []
none_of start hs [] = refl
none_of start hs (p ∷ ps) =
    ap (λ (o : Option Ending). cons_option o (filter_map (ending_at start (entries_of hs)) ps)) (no_ending start hs p) ∙ none_of start hs ps

no_endings : (start : State) (hs : List ℕ) → [] ≡ endings start (entries_of hs)
unfolding endings
no_endings start hs = sym (none_of start hs (places (entries_of hs)))

-- where the part goes on, under the widest plan of its harts, pause and slots
pub goes_on : (walk : Walked) (part : Part) → IsPart walk part → (fork : Fork) × (fork.start ≡ walk.start) × GoesOnFrom fork (entries_of (take part.place walk.harts)) [] (numbers part.probed.finished.plan) part.probed.finished.entries.items part.probed.finished.endings.items
goes_on walk part is =
    let plan : Numbers = numbers part.probed.finished.plan in
    let front : List ℕ = take part.place walk.harts in
    let fork : Fork = record { start = walk.start; plan = record plan { steps = MOST_STEPS; arms = MOST_ARMS }; end = is.start } in
    let within : part.place ≤ length walk.harts = is.within in
    let short : length front ≡ part.place = omega (arith, length-take part.place walk.harts) in
    let room : part.place + plan.steps ≤ MOST_STEPS = is.room in
    let made : length (steps (entries_of front)) ≡ length front = ap (λ (hs : List ℕ). length hs) (steps_of_entries front) in
    let in_range : IsPlan plan = is.in_range in (
      fork,
      refl,
      record {
        in_range = record {
          some_hart = in_range.some_hart;
          harts = in_range.harts;
          some_step = omega arith;
          steps = omega arith;
          arms = omega arith;
          some_pause = in_range.some_pause;
          pause = in_range.pause;
          some_slot = in_range.some_slot;
          slots = in_range.slots;
        };
        is_prefix = prefix walk.start is.start fork.plan front is.at (sym is.harts) (omega arith);
        told_are = no_endings walk.start front;
        legal = is.legal;
        ended_are = is.endings_are;
        harts = refl;
        slots = refl;
        steps_left = omega arith;
        arms_left = let none : count_by arms (entries_of front) ≡ 0 = no_arms front in let few : plan.arms ≤ MOST_ARMS = is.arms in omega arith;
      },
    )

pub whole_of : {E : Type 0} (part : Part) (harts : List ℕ) (at : ℕ) (front : List Entry) (told : Result Finished E) → at ≡ min part.place (length harts) → front ≡ entries_of (take at harts) → IfOk told (λ whole. whole.entries.items ≡ front ++ part.probed.finished.entries.items) → IfOk told (λ whole. (fork : Fork) → GoesOnFrom fork front [] (numbers part.probed.finished.plan) part.probed.finished.entries.items part.probed.finished.endings.items → IsJoinedWhole fork (numbers part.probed.finished.plan) (numbers whole.plan) whole.entries.items whole.endings.items) → IfOk told (λ whole. (walk : Walked) → walk.harts ≡ harts → IsPart walk part → IsWhole walk part whole)
whole_of part harts at front (Err e) least same entries joined = tt
whole_of part harts at front (Ok whole) least same entries joined =
    λ walk own is.
    let it = goes_on walk part is in
    let count : length walk.harts ≡ length harts = ap (λ (hs : List ℕ). length hs) own in
    let within : part.place ≤ length walk.harts = is.within in
    let place : at ≡ part.place = omega arith in
    let list : take at harts ≡ take part.place walk.harts = ap (λ (n : ℕ). take n harts) place ∙ ap (λ (hs : List ℕ). take part.place hs) (sym own) in
    let front_is : front ≡ entries_of (take part.place walk.harts) = same ∙ ap entries_of list in
    let w = joined it.0 (subst (λ (es : List Entry). GoesOnFrom it.0 es [] (numbers part.probed.finished.plan) part.probed.finished.entries.items part.probed.finished.endings.items) (sym front_is) it.2) in
    record {
      entries_are = entries ∙ ap (λ (es : List Entry). es ++ part.probed.finished.entries.items) front_is;
      legal = subst (λ (s : State). IsLegal (record { start = s; plan = numbers whole.plan }) whole.entries.items) it.1 w.legal;
      endings_are = w.told_are ∙ ap (λ (s : State). endings s whole.entries.items) it.1;
    }

pub short : (harts : List ℕ) (at own : ℕ) (front : List Entry) → own < 2 ^ 31 → length harts ≤ MOST_WALKED → front ≡ entries_of (take at harts) → length front + own < 2 ^ 32
short harts at own front few walked same =
    let front_is : length front ≡ length (take at harts) = ap (λ (es : List Entry). length es) same ∙ length-map (take at harts) Stepped in
    omega (arith, length-take at harts)
