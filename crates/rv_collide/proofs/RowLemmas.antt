-- Steps that are told again in a row, one more.
use Rattle.std.proofs.Common.{◌≡◌, ◌≢◌, ◌⊎◌, ℕ, zero, suc, ◌+◌, ◌<◌, inl, inr, Bool, true, false, List, [], ◌∷◌, ◌++◌, length, take, Option, Some, None, refl, sym, ap, subst, ◌∙◌, arith, length-append, get_or, replicate, set}
use Rattle.std.specs.Prelude.{◌==◌, nat_lt, find, is_ok, is_some, slice_get, IsSomeAnd}
use Rattle.std.specs.FinSet.{FinSet, len}
use Rattle.std.specs.Ordering.{nat_cmp}
use Rattle.std.proofs.lemmas.Bool.{cases_eq}
use Rattle.std.proofs.lemmas.Bool.Decides.{nat_tests}
use Rattle.rv_collide.specs.Detected.{Adds, IsFree, StepsOn}
use Rattle.rv_collide.specs.Armed.{armed}
use Rattle.rv_collide.specs.Entries.{steps}
use Rattle.rv_collide.specs.Forced.{Turn, forced}
use Rattle.rv_collide.specs.Legal.{call_of}
use Rattle.rv_collide.specs.Next.{runs_at}
use Rattle.rv_collide.specs.Pause.{Opening, opening_of, openings}
use Rattle.rv_collide.specs.Begun.{Begun, added, begun, setting_of}
use Rattle.rv_collide.specs.declared.entry.Entry.{Entry}
use Rattle.rv_collide.specs.declared.entry.Entry.TheVariants.{Stepped}
use Rattle.rv_collide.specs.internal.GoesOn.{GoesOn}
use Rattle.rv_collide.specs.internal.Row.{AreAble, IsAble, IsInRow, StepsAgain}
use Rattle.rv_hart.specs.Refusals.{is_running_hart}
use Rattle.rv_hart.specs.State.{State, is_running}
use Rattle.rv_hart.specs.Step.{step_of}
use Rattle.rv_hart.specs.StepLaws.{OtherHartsStay, SameButReservation}
use Rattle.rv_hart.specs.declared.access.Event.{Event}
use Rattle.rv_hart.specs.declared.hart.Hart.{Hart}
use Rattle.rv_collide.proofs.ArmedLemmas.{armed_push}
use Rattle.rv_collide.proofs.Calls.{turn_ok}
use Rattle.rv_collide.proofs.GoesOn.{runs_there, unarmed}
use Rattle.rv_collide.proofs.Growth.{quiet_openings}
use Rattle.rv_collide.proofs.LawLemmas.{runs_in}
use Rattle.rv_collide.proofs.Prefix.{state_step, steps_step}
use Rattle.rv_collide.proofs.Replayed.{take_one}

-- ---- harts that stay able

same_status : (o : Option Hart) (other : Hart) → IsSomeAnd o (SameButReservation other) → is_running_hart o ≡ is_running other.status
same_status None other h = absurd h
same_status (Some hart) other h = ap is_running h.status

runs_on : OtherHartsStay → (s after : State) (h : ℕ) (event : Event) → step_of s h ≡ Some (event, after) → (k : ℕ) → k ≢ h → (o : Option Hart) → slice_get s.harts k ≡ o → is_running_hart o ≡ true → is_running_hart (slice_get after.harts k) ≡ true
runs_on law s after h event step k ne None at runs = cc
runs_on law s after h event step k ne (Some other) at runs =
    same_status (slice_get after.harts k) other (law s after h event step k ne other at) ∙ runs

opening_stays : (xs : List Entry) (h k : ℕ) → opening_of (xs ++ Stepped h ∷ []) k ≡ opening_of xs k
unfolding opening_of
opening_stays xs h k = ap (find (λ (o : Opening). o.hart == k)) (quiet_openings xs (Stepped h) (λ j. refl) (λ place. refl))

-- ---- no pause is opened and no address armed by a step

module _ (old new : Begun) (h : ℕ) (on : StepsOn old new h) where
  still_unwatched : openings old.entries ≡ [] → openings new.entries ≡ []
  still_unwatched none =
      subst (λ (c : Begun). openings c.entries ≡ []) (sym on.turns.0.is_added)
      (quiet_openings old.entries (Stepped h) (λ j. refl) (λ place. refl) ∙ none)

  pub still_free : IsFree old → IsFree new
  still_free free =
      let same : armed (setting_of old).start (old.entries ++ Stepped h ∷ []) ≡ armed (setting_of old).start old.entries = armed_push (setting_of old).start old.entries (Stepped h) in
      record {
        unwatched = still_unwatched free.unwatched;
        unarmed = subst (λ (c : Begun). (len (armed (setting_of c).start c.entries) == 0) ≡ true) (sym on.turns.0.is_added) (ap (λ (s : FinSet nat_cmp). len s == 0) same ∙ free.unarmed);
      }

module _ (law : OtherHartsStay) (old new : Begun) (h : ℕ) (on : StepsOn old new h) where
  other_runs : (k : ℕ) → k ≢ h → runs_at (setting_of old).start old.entries (length old.entries) k ≡ true → runs_at (setting_of (added old (Stepped h))).start (old.entries ++ Stepped h ∷ []) (length (old.entries ++ Stepped h ∷ [])) k ≡ true
  other_runs k ne runs =
      let event = on.turns.1 in
      let at = state_step (setting_of old).start event.state event.after old.entries h on.event event.reached event.step in
      runs_there (setting_of old).start event.after (old.entries ++ Stepped h ∷ []) (length (old.entries ++ Stepped h ∷ [])) k at
      (runs_on law event.state event.after h on.event event.step k ne (slice_get event.state.harts k) refl
      (runs_in (setting_of old).start event.state old.entries (length old.entries) k event.reached runs))

  still_runs : (k : ℕ) → runs_at (setting_of old).start old.entries (length old.entries) k ≡ true → runs_at (setting_of new).start new.entries (length new.entries) k ≡ true
  still_runs k runs =
      elim (cases_eq k h) [
        | inl same ↦ subst (λ (n : ℕ). runs_at (setting_of new).start new.entries (length new.entries) n ≡ true) (sym same) on.runs
        | inr ne ↦ subst (λ (c : Begun). runs_at (setting_of c).start c.entries (length c.entries) k ≡ true) (sym on.turns.0.is_added) (other_runs k ne runs)
      ]

  still_able : (k : ℕ) → IsAble old k → IsAble new k
  still_able k able = record {
    within = subst (λ (c : Begun). k < c.plan.harts) (sym on.turns.0.is_added) able.within;
    runs = still_runs k able.runs;
    free = subst (λ (c : Begun). is_some (opening_of c.entries k) ≡ false) (sym on.turns.0.is_added) (ap is_some (opening_stays old.entries h k) ∙ able.free);
  }

  one_step_more : length (steps new.entries) ≡ length (steps old.entries) + 1
  one_step_more =
      ap (λ (c : Begun). length (steps c.entries)) on.turns.0.is_added
      ∙ ap length (steps_step old.entries h)
      ∙ length-append (steps old.entries) (h ∷ [])

-- ---- marks

pub none_marked : (n h : ℕ) → get_or (replicate n false) h false ≡ false
none_marked zero h = refl
none_marked (suc n) zero = refl
none_marked (suc n) (suc h) = none_marked n h

both_ways : (b : Bool) → b ≡ false → b ≡ true → ⊥
both_ways b off on = cc

pub unmarked : (c : Begun) (marks : List Bool) (h : ℕ) → get_or marks h false ≡ false → get_or marks h false ≡ true → IsAble c h
unmarked c marks h off on = absurd (both_ways (get_or marks h false) off on)

set_tells : (marks : List Bool) (i k : ℕ) (mark : Bool) → get_or (set marks i mark) k false ≡ true → ((k ≡ i) × (mark ≡ true)) ⊎ (get_or marks k false ≡ true)
set_tells [] i k mark h = inr h
set_tells (x ∷ marks) zero zero mark h = inl (refl, h)
set_tells (x ∷ marks) zero (suc k) mark h = inr h
set_tells (x ∷ marks) (suc i) zero mark h = inr h
set_tells (x ∷ marks) (suc i) (suc k) mark h = elim (set_tells marks i k mark h) [ inl here ↦ inl (ap suc here.0, here.1) | inr there ↦ inr there ]

pub one_more_mark : (c : Begun) (marks : List Bool) (i h : ℕ) (mark : Bool) → i ≡ h → AreAble c marks → (mark ≡ true → IsAble c h) → AreAble c (set marks i mark)
one_more_mark c marks i h mark same are one k marked =
    elim (set_tells marks i k mark marked) [ inl here ↦ subst (IsAble c) (sym (here.0 ∙ same)) (one here.1) | inr there ↦ are k there ]

-- ---- a step that an entry says

lt_is : (a b : ℕ) → a < b → nat_lt a b ≡ true
lt_is a b h = grind (arith, nat_tests)

pub free_turn : (c : Begun) (h : ℕ) → is_some (opening_of c.entries h) ≡ false → nat_lt (length (steps c.entries)) c.plan.steps ≡ true → IsFree c → GoesOn c h
free_turn c h closed left free = record { free = closed; left = left; passes = unarmed c h free.unarmed }

pub free_goes : (c : Begun) (h : ℕ) → IsAble c h → nat_lt (length (steps c.entries)) c.plan.steps ≡ true → IsFree c → GoesOn c h
free_goes c h able left free = free_turn c h able.free left free

pub accepted : (c : Begun) (h : ℕ) → IsAble c h → nat_lt (length (steps c.entries)) c.plan.steps ≡ true → is_ok (forced (setting_of c) c.entries (Turn h)) ≡ true
accepted c h able left = ap is_ok (turn_ok (setting_of c) c.entries h (lt_is h c.plan.harts able.within) able.runs able.free left)

-- ---- the row

pub left_in_row : (old now : Begun) (entries : List Entry) (marks : List Bool) (is_watched : Bool) (place end : ℕ) → IsInRow old now entries marks is_watched place end → place < end → nat_lt (length (steps now.entries)) now.plan.steps ≡ true
left_in_row old now entries marks is_watched place end row below =
    let left = row.left in lt_is (length (steps now.entries)) now.plan.steps (omega (arith, left, below))

one_more_told : (old now new : Begun) (entries : List Entry) (place : ℕ) (e : Entry) → now ≡ begun old.start old.plan (take place entries) → slice_get entries place ≡ Some e → Adds now new (call_of e) e → new ≡ begun old.start old.plan (take (place + 1) entries)
one_more_told old now new entries place e is there adds =
    adds.is_added
    ∙ ap (λ (c : Begun). added c e) is
    ∙ ap (begun old.start old.plan) (sym (take_one entries place e there))

pub row_goes_on : OtherHartsStay → (old now new : Begun) (entries : List Entry) (marks : List Bool) (is_watched : Bool) (place end : ℕ) (entry : Entry) → IsInRow old now entries marks is_watched place end → slice_get entries place ≡ Some entry → StepsAgain now new entry → IsInRow old new entries marks is_watched (place + 1) end
row_goes_on law old now new entries marks is_watched place end entry row there again =
    let on = again.steps in
    let there : slice_get entries place ≡ Some (Stepped again.hart) = there ∙ ap Some again.entry_is in
    let more = one_step_more law now new again.hart on in
    let plan : new.plan.steps ≡ now.plan.steps = ap (λ (c : Begun). c.plan.steps) on.turns.0.is_added in
    let left = row.left in
    record {
      told = one_more_told old now new entries place (Stepped again.hart) row.told there on.turns.0;
      left = omega (arith, left, more, plan);
      able = λ h marked. still_able law now new again.hart on h (row.able h marked);
      free = λ is. still_free now new again.hart on (row.free is);
    }
