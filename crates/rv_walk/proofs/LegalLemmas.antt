-- The list of a walk's steps is a legal schedule.
use Rattle.std.proofs.Common.{◌≡◌, ◌⊎◌, inl, inr, ℕ, zero, suc, ◌+◌, ◌≤◌, ◌<◌, Bool, true, false, cond, Option, Some, None, List, [], ◌∷◌, ◌++◌, length, take, refl, sym, ap, subst, ◌∙◌, arith}
use Rattle.std.specs.Prelude.{Ok, find, Result, map, nat_lt, not, is_some, option_and_then, option_map, slice_get, slice_set, ◌==◌, if◌then◌else◌}
use Rattle.std.specs.FinSet.{FinSet, contains, contains-from_list_nat, from_list, len, len-empty}
use Rattle.std.specs.List.{range_with_len}
use Rattle.std.specs.Option.{option_map_or}
use Rattle.std.specs.Ordering.{nat_cmp}
use Rattle.std.proofs.lemmas.Bool.{cases_lt, lt-ltb}
use Rattle.std.proofs.lemmas.List.{take-map, length-map, length-take}
use Rattle.std.proofs.lemmas.Option.{slice_get-map, slice_get_within}
use Rattle.rv_collide.specs.Armed.{armed, last_armed, mention_at, mention_by, mentions, Mention}
use Rattle.rv_collide.specs.Entries.{places, steps}
use Rattle.rv_collide.specs.Forced.{Setting, Turn, forced, least_free, turn_entry}
use Rattle.rv_collide.specs.Joined.{IsPrefix}
use Rattle.rv_collide.specs.Legal.{IsLegal, call_of}
use Rattle.rv_collide.specs.Next.{plain, runs_at}
use Rattle.rv_collide.specs.Pause.{Opening, opening_of, openings, openings_from}
use Rattle.rv_collide.specs.Plan.{Numbers}
use Rattle.rv_collide.specs.StateAt.{state_at}
use Rattle.rv_collide.specs.declared.entry.Entry.{Entry}
use Rattle.rv_collide.specs.declared.entry.Entry.TheVariants.{Paused, Stepped}
use Rattle.rv_collide.specs.declared.refused.Refused.{Refused}
use Rattle.rv_collide.specs.declared.refused.Refused.TheVariants.{NoHart, NotRunning, StepsSpent, Paused as Is_paused}
use Rattle.rv_hart.specs.Refusals.{is_running_hart}
use Rattle.rv_hart.specs.Run.{run}
use Rattle.rv_hart.specs.State.{State, is_running}
use Rattle.rv_hart.specs.Step.{step_of, step_of_hart, step_by, state_after, action_at, seen_by, loaded_by, written_by, hart_after}
use Rattle.rv_hart.specs.declared.access.Access.{Access}
use Rattle.rv_hart.specs.declared.access.Event.{Event}
use Rattle.rv_hart.specs.declared.hart.Hart.{Hart}
use Rattle.rv_memory.specs.Chain.{◌>>=◌, want}
use Rattle.rv_walk.specs.Walked.{entries_of}
use Rattle.rv_walk.proofs.EntriesLemmas.{state_now, steps_of_entries}
use Rattle.rv_walk.proofs.LongerLemmas.{run_append}
use Rattle.rv_walk.proofs.StandsLemmas.{runs_within}

-- ---- a step leaves as many harts, and is a running hart's

set_length : {X : Type 0} → (xs : List X) (i : ℕ) (x : X) → length (slice_set xs i x) ≡ length xs
set_length [] i x = refl
set_length (y ∷ xs) zero x = refl
set_length (y ∷ xs) (suc i) x = ap suc (set_length xs i x)

if_some : {A : Type 0} → (running : Bool) (x y : A) → cond running (Some x) None ≡ Some y → (running ≡ true) × (x ≡ y)
if_some true x y h = (refl, cc)
if_some false x y h = cc

of_hart : (s t : State) (h : ℕ) (e : Event) (o : Option Hart) → step_of_hart s h o ≡ Some (e, t) → (is_running_hart o ≡ true) × (length t.harts ≡ length s.harts)
of_hart s t h e None step = cc
of_hart s t h e (Some hart) step =
    let it = if_some (is_running hart.status) (step_by s h hart (action_at s.memory hart)) (e, t) step in
    let after : state_after s h hart (action_at s.memory hart) ≡ t = ap (λ (p : Event × State). p.1) it.1 in
    let action = action_at s.memory hart in
    let loaded : ℕ = loaded_by s.memory action in
    let count : length (slice_set (map (seen_by (written_by loaded hart action)) s.harts) h (hart_after loaded hart action)) ≡ length s.harts =
    set_length (map (seen_by (written_by loaded hart action)) s.harts) h (hart_after loaded hart action) ∙ length-map s.harts (seen_by (written_by loaded hart action)) in
    (it.0, ap (λ (u : State). length u.harts) (sym after) ∙ count)

step_facts : (s t : State) (h : ℕ) (e : Event) → step_of s h ≡ Some (e, t) → (is_running_hart (slice_get s.harts h) ≡ true) × (length t.harts ≡ length s.harts)
unfolding step_of
step_facts s t h e step = of_hart s t h e (slice_get s.harts h) step

first_step : (s end : State) (h : ℕ) (hs : List ℕ) (o : Option (Event × State)) → option_and_then (λ step. run step.1 hs) o ≡ Some end → (made : Event × State) × (o ≡ Some made) × (run made.1 hs ≡ Some end)
first_step s end h hs None is = cc
first_step s end h hs (Some made) is = (made, refl, is)

run_count : (s t : State) (hs : List ℕ) → run s hs ≡ Some t → length t.harts ≡ length s.harts
run_count s t [] is = let e : s ≡ t = cc in ap (λ (u : State). length u.harts) (sym e)
run_count s t (h ∷ hs) is =
    let it = first_step s t h hs (step_of s h) is in
    run_count it.0.1 t hs it.2 ∙ (step_facts s it.0.1 h it.0.0 it.1).1

-- where the hart at a place of the list steps, it runs
pub record RunsThere (start : State) (hs : List ℕ) (place h : ℕ) : Type 0 where
  pub state : State
  pub there : run start (take place hs) ≡ Some state
  pub runs : is_running_hart (slice_get state.harts h) ≡ true

runs_there : (start end : State) (hs : List ℕ) (place h : ℕ) → run start hs ≡ Some end → slice_get hs place ≡ Some h → RunsThere start hs place h
runs_there start end [] place h is at = cc
runs_there start end (k ∷ hs) zero h is at =
    let it = first_step start end k hs (step_of start k) is in
    let same : k ≡ h = cc in
    record { state = start; there = refl; runs = subst (λ (n : ℕ). is_running_hart (slice_get start.harts n) ≡ true) same (step_facts start it.0.1 k it.0.0 it.1).0 }
runs_there start end (k ∷ hs) (suc place) h is at =
    let it = first_step start end k hs (step_of start k) is in
    let later = runs_there it.0.1 end hs place h it.2 at in
    record { state = later.state; there = ap (option_and_then (λ (step : Event × State). run step.1 (take place hs))) it.1 ∙ later.there; runs = later.runs }

-- ---- nothing is paused or armed in a list of steps

none_open : (place : ℕ) (hs : List ℕ) → openings_from place (map Stepped hs) ≡ []
unfolding openings_from
none_open place [] = refl
none_open place (h ∷ hs) = none_open (place + 1) hs

pub no_openings : (hs : List ℕ) → openings (entries_of hs) ≡ []
unfolding openings
no_openings hs = none_open 0 hs

not_paused : (hs : List ℕ) (h : ℕ) → is_some (opening_of (entries_of hs) h) ≡ false
unfolding opening_of
not_paused hs h = ap (λ (os : List Opening). is_some (find (λ (o : Opening). o.hart == h) os)) (no_openings hs)

no_mention_by : (start : State) (entries : List Entry) (place : ℕ) (hs : List ℕ) (at : ℕ) → option_and_then (mention_by start entries place) (slice_get (map Stepped hs) at) ≡ None
no_mention_by start entries place [] at = refl
no_mention_by start entries place (h ∷ hs) zero = refl
no_mention_by start entries place (h ∷ hs) (suc at) = no_mention_by start entries place hs at

no_mention : (start : State) (hs : List ℕ) (place : ℕ) → mention_at start (entries_of hs) place ≡ None
unfolding mention_at
no_mention start hs place = no_mention_by start (entries_of hs) place hs place

none_last : (start : State) (hs : List ℕ) (ps : List ℕ) → last_armed (map (mention_at start (entries_of hs)) ps) ≡ []
unfolding last_armed
none_last start hs [] = refl
none_last start hs (p ∷ ps) =
    ap (λ (o : Option Mention). last_armed (o ∷ map (mention_at start (entries_of hs)) ps)) (no_mention start hs p) ∙ none_last start hs ps

pub no_armed : (start : State) (hs : List ℕ) → armed start (entries_of hs) ≡ from_list []
unfolding armed mentions
no_armed start hs = ap from_list (none_last start hs (places (entries_of hs)))

-- ---- each step is accepted

empty_set : (s : FinSet nat_cmp) (a : ℕ) → s ≡ from_list [] → contains s a ≡ false
empty_set s a e = ap (λ (t : FinSet nat_cmp). contains t a) e ∙ contains-from_list_nat [] a

-- where nothing is armed a turn is a step
steps_on : (setting : Setting) (hs : List ℕ) (h : ℕ) (access : Option Access) → turn_entry setting (entries_of hs) h access ≡ Stepped h
steps_on setting hs h None = refl
steps_on setting hs h (Some access) =
    ap (λ (b : Bool). if b then Paused h (least_free setting.plan.slots (entries_of hs)) else Stepped h) (empty_set (armed setting.start (entries_of hs)) access.pc (no_armed setting.start hs))

running_at : (start : State) (hs : List ℕ) (h : ℕ) (state : State) → run start hs ≡ Some state → is_running_hart (slice_get state.harts h) ≡ true → runs_at start (entries_of hs) (length (entries_of hs)) h ≡ true
unfolding runs_at
running_at start hs h state there runs =
    let count : length (entries_of hs) ≡ length hs = length-map hs Stepped in
    let at : state_at start (entries_of hs) (length (entries_of hs)) ≡ Some state = ap (state_at start (entries_of hs)) count ∙ state_now start hs ∙ there in
    ap (λ (o : Option State). option_map_or (λ (s : State). is_running_hart (slice_get s.harts h)) o false) at ∙ runs

accepted : (setting : Setting) (hs : List ℕ) (h : ℕ) → nat_lt h setting.plan.harts ≡ true → runs_at setting.start (entries_of hs) (length (entries_of hs)) h ≡ true → nat_lt (length (steps (entries_of hs))) setting.plan.steps ≡ true → forced setting (entries_of hs) (Turn h) ≡ Ok (Stepped h)
unfolding forced
accepted setting hs h is_hart runs left =
    let es : List Entry = entries_of hs in
    let last : Unit {0} → Result Entry Refused = λ _. Ok (turn_entry setting es h (plain setting.start es (length es) h)) in
    ap (λ (b : Bool). want b NoHart >>= λ _. want (runs_at setting.start es (length es) h) NotRunning >>= λ _. want (not (is_some (opening_of es h))) Is_paused >>= λ _. want (nat_lt (length (steps es)) setting.plan.steps) StepsSpent >>= last) is_hart
    ∙ ap (λ (b : Bool). want b NotRunning >>= λ _. want (not (is_some (opening_of es h))) Is_paused >>= λ _. want (nat_lt (length (steps es)) setting.plan.steps) StepsSpent >>= last) runs
    ∙ ap (λ (b : Bool). want (not b) Is_paused >>= λ _. want (nat_lt (length (steps es)) setting.plan.steps) StepsSpent >>= last) (not_paused hs h)
    ∙ ap (λ (b : Bool). want b StepsSpent >>= last) left
    ∙ ap Ok (steps_on setting hs h (plain setting.start es (length es) h))

at_place : (hs : List ℕ) (place : ℕ) (entry : Entry) → slice_get (map Stepped hs) place ≡ Some entry → (h : ℕ) × (slice_get hs place ≡ Some h) × (entry ≡ Stepped h)
at_place [] place entry at = cc
at_place (h ∷ hs) zero entry at = (h, refl, cc)
at_place (h ∷ hs) (suc place) entry at = at_place hs place entry at

pub steps_legal : (start end : State) (plan : Numbers) (hs : List ℕ) → run start hs ≡ Some end → length start.harts ≡ plan.harts → length hs ≤ plan.steps → IsLegal (record { start = start; plan = plan }) (entries_of hs)
steps_legal start end plan hs leads count room = λ place entry at.
    let it = at_place hs place entry at in
    let h : ℕ = it.0 in
    let setting : Setting = record { start = start; plan = plan } in
    let there : RunsThere start hs place h = runs_there start end hs place h leads it.1 in
    let front : List ℕ = take place hs in
    let below : place < length hs = slice_get_within hs place h it.1 in
    let front_short : length front ≡ place = omega (arith, length-take place hs) in
    let is_hart : h < plan.harts = subst (λ (n : ℕ). h < n) (run_count start there.state front there.there ∙ count) (runs_within there.state.harts h there.runs) in
    let steps_made : length (steps (entries_of front)) ≡ place = ap (λ (ks : List ℕ). length ks) (steps_of_entries front) ∙ front_short in
    let left : length (steps (entries_of front)) < plan.steps = omega arith in
    let ok : forced setting (entries_of front) (Turn h) ≡ Ok (Stepped h) =
    accepted setting front h (lt-ltb h plan.harts is_hart) (running_at start front h there.state there.there there.runs) (lt-ltb (length (steps (entries_of front))) plan.steps left) in
    let fronts : take place (entries_of hs) ≡ entries_of front = take-map Stepped place hs in
    let own : forced setting (take place (entries_of hs)) (Turn h) ≡ Ok (Stepped h) = ap (λ (es : List Entry). forced setting es (Turn h)) fronts ∙ ok in
    subst (λ (e : Entry). forced setting (take place (entries_of hs)) (call_of e) ≡ Ok e) (sym it.2) own

pub prefix : (start end : State) (plan : Numbers) (hs : List ℕ) → run start hs ≡ Some end → length start.harts ≡ plan.harts → length hs ≤ plan.steps → IsPrefix (record { start = start; plan = plan }) (entries_of hs) end
prefix start end plan hs leads count room =
    let same : length (entries_of hs) ≡ length hs = length-map hs Stepped in
    record {
      legal = steps_legal start end plan hs leads count room;
      leads = ap (state_at start (entries_of hs)) same ∙ state_now start hs ∙ leads;
      unwatched = no_openings hs;
      unarmed = ap (λ (s : FinSet nat_cmp). len s == 0) (no_armed start hs) ∙ ap (λ (n : ℕ). n == 0) (len-empty nat_cmp);
    }
