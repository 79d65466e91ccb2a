-- The laws of schedules.
use Rattle.std.proofs.Common.{◌≡◌, ◌≢◌, ℕ, zero, suc, ◌+◌, ◌-◌, ◌≤◌, ◌<◌, Bool, true, false, cond, List, [], ◌∷◌, ◌++◌, length, take, Option, Some, None, Result, Ok, refl, sym, ap, subst, ◌∙◌, arith, add-one}
use Rattle.std.specs.Prelude.{◌==◌, ◌&&◌, ◌||◌, not, nat_lt, min, max, is_some, IsSome, find, slice_get, option_map, option_and_then}
use Rattle.std.specs.List.{range_with_len}
use Rattle.std.specs.Option.{option_map_or}
use Rattle.std.proofs.lemmas.Bool.Decides.{nat_tests}
use Rattle.rv_break.specs.declared.claim.Seen.{Seen}
use Rattle.rv_collide.specs.Entries.{steps, stepped_at, between}
use Rattle.rv_collide.specs.First.{first, paused_access, seen_at, conflicts_at, is_against}
use Rattle.rv_collide.specs.Forced.{Setting, Turn, forced}
use Rattle.rv_collide.specs.Laws.{SameStepsSameState, ReportsAreRaces, LegalHasStates}
use Rattle.rv_collide.specs.Legal.{IsLegal, call_of}
use Rattle.rv_collide.specs.Made.{made}
use Rattle.rv_collide.specs.Next.{runs_at}
use Rattle.rv_collide.specs.Pause.{Pause, within}
use Rattle.rv_collide.specs.StateAt.{state_at}
use Rattle.rv_collide.specs.Verdict.{verdict, verdict_of, watched}
use Rattle.rv_collide.specs.declared.ending.Verdict.TheVariants.{Hit}
use Rattle.rv_collide.specs.declared.entry.Entry.{Entry}
use Rattle.rv_collide.specs.declared.entry.Entry.TheVariants.{Stepped, Paused, Resumed, Armed, Disarmed}
use Rattle.rv_hart.specs.Conflict.{Conflict, conflicts, end_of, meets}
use Rattle.rv_hart.specs.Refusals.{is_running_hart}
use Rattle.rv_hart.specs.ReservationLaws.{StepsOfRunningHarts}
use Rattle.rv_hart.specs.Run.{run}
use Rattle.rv_hart.specs.State.{State}
use Rattle.rv_hart.specs.Step.{step_of}
use Rattle.rv_hart.specs.declared.access.Access.{Access}
use Rattle.rv_hart.specs.declared.access.Event.{Event}
use Rattle.rv_memory.specs.Chain.{◌>>=◌, want}
use Rattle.rv_collide.proofs.Prefix.{state_end, state_quiet, state_step}

pub same_steps : SameStepsSameState
same_steps start one other same = state_end start one ∙ ap (run start) same ∙ sym (state_end start other)

-- ---- reports

pub some_same : {A : Type 0} → (x y : A) → Some x ≡ Some y → x ≡ y
some_same x y h = cc

hit_of : (o : Option Seen) (same : Bool) (seen : Seen) → verdict_of o same ≡ Hit seen → o ≡ Some seen
hit_of (Some s) same seen h = cc
hit_of None true seen h = cc
hit_of None false seen h = cc

record FoundBy (P : ℕ → Option Seen) (found : Option ℕ) (seen : Seen) : Type 0 where
  pub place : ℕ
  pub found_is : found ≡ Some place
  pub gives : P place ≡ Some seen

found_by : (P : ℕ → Option Seen) (b : Bool) (found : Option ℕ) (seen : Seen) → cond b (option_and_then P found) None ≡ Some seen → FoundBy P found seen
found_by P false found seen h = cc
found_by P true None seen h = cc
found_by P true (Some place) seen h = record { place = place; found_is = refl; gives = h }

pub record Within (p : ℕ → Bool) (a n place : ℕ) : Type 0 where
  pub passes : p place ≡ true
  pub from : a ≤ place
  pub below : place < a + n

pub find_within : (p : ℕ → Bool) (a n place : ℕ) → find p (range_with_len a n) ≡ Some place → Within p a n place
find_within p a zero place h = cc
find_within p a (suc n) place h =
    elim (p a) as (λ b. p a ≡ b → cond b (Some a) (find p (range_with_len (a + 1) n)) ≡ Some place → Within p a (suc n) place) [
      | true ↦ λ e found. let same : a ≡ place = some_same a place found in record { passes = ap p (sym same) ∙ e; from = omega arith; below = omega arith }
      | false ↦ λ e found. let w = find_within p (a + 1) n place found in let from = w.from in let below = w.below in record { passes = w.passes; from = omega arith; below = omega arith }
    ] refl h

seen_parts : (place : ℕ) (hart : Option ℕ) (access : Option Access) (seen : Seen) → option_and_then (λ h. option_map (λ a. record { place = place; hart = h; access = a }) access) hart ≡ Some seen → seen.place ≡ place
seen_parts place None access seen h = cc
seen_parts place (Some hart) None seen h = cc
seen_parts place (Some hart) (Some access) seen h = sym (ap (λ (s : Seen). s.place) (some_same (record { place = place; hart = hart; access = access }) seen h))

pub seen_place : (start : State) (entries : List Entry) (place : ℕ) (seen : Seen) → seen_at start entries place ≡ Some seen → seen.place ≡ place
unfolding seen_at
seen_place start entries place seen h = seen_parts place (stepped_at entries place) (made start entries place) seen h

true_is_not_false : false ≡ true → ⊥
true_is_not_false h = cc

pub eq_itself : (a : ℕ) → (a == a) ≡ true
eq_itself a = grind (arith, nat_tests)

pub below_of : (a b : ℕ) → nat_lt a b ≡ true → a < b
below_of a b h = grind (arith, nat_tests)

pub and_first : (b c : Bool) → (b && c) ≡ true → b ≡ true
and_first true c h = refl
and_first false c h = cc

others : (a b : ℕ) (c : Bool) → (not (a == b) && c) ≡ true → a ≢ b
others a b c h same =
    let own = subst (λ (n : ℕ). (not (n == b) && c) ≡ true) same h in
    let never : false ≡ true = subst (λ (v : Bool). (not v && c) ≡ true) (eq_itself b) own in
    true_is_not_false never

pub and_second : (b c : Bool) → (b && c) ≡ true → c ≡ true
and_second true c h = h
and_second false c h = cc

conflict_of : (a b : Access) → conflicts a b ≡ true → Conflict a b
conflict_of a b h =
    let met : max a.first b.first < min (end_of a) (end_of b) = below_of (max a.first b.first) (min (end_of a) (end_of b)) (and_first (meets a b) (a.write || b.write) h) in
    record {
      shared = record {
        address = max a.first b.first;
        of_one = record { from = omega arith; before = omega arith };
        of_other = record { from = omega arith; before = omega arith };
      };
      writes = and_second (meets a b) (a.write || b.write) h;
    }

against : (hart : ℕ) (access : Access) (seen : Seen) → is_against hart access seen ≡ true → (hart ≢ seen.hart) × Conflict access seen.access
against hart access seen h = (others hart seen.hart (conflicts access seen.access) h, conflict_of access seen.access (and_second (not (hart == seen.hart)) (conflicts access seen.access) h))

against_at : (start : State) (entries : List Entry) (pause : Pause) (access : Access) (seen : Seen) (place : ℕ) → paused_access start entries pause ≡ Some access → seen_at start entries place ≡ Some seen → conflicts_at start entries pause place ≡ true → is_against pause.hart access seen ≡ true
unfolding conflicts_at
against_at start entries pause access seen place would gives passes =
    sym (ap (λ (o : Option Access). option_map_or (λ a. option_map_or (is_against pause.hart a) (seen_at start entries place) false) o false) would
    ∙ ap (λ (o : Option Seen). option_map_or (is_against pause.hart access) o false) gives)
    ∙ passes

in_pause : (from until place : ℕ) → from + 1 ≤ place → place < (from + 1) + (until - (from + 1)) → (from < place) × (place < until)
in_pause from until place lo hi = (omega arith, omega arith)

pub reports : ReportsAreRaces
unfolding verdict watched first within between
reports start entries pause access seen would hit =
    let w = found_by (seen_at start entries) (is_some pause.slot) (first start entries pause) seen (hit_of (watched start entries pause) _ seen hit) in
    let f = find_within (conflicts_at start entries pause) (pause.paused_at + 1) (pause.resumed_at - (pause.paused_at + 1)) w.place w.found_is in
    let same = seen_place start entries w.place seen w.gives in
    let is = against pause.hart access seen (against_at start entries pause access seen w.place would w.gives f.passes) in
    let bounds = in_pause pause.paused_at pause.resumed_at w.place f.from f.below in
    record {
      after = subst (λ (p : ℕ). pause.paused_at < p) (sym same) bounds.0;
      before = subst (λ (p : ℕ). p < pause.resumed_at) (sym same) bounds.1;
      others = is.0;
      did = subst (λ (p : ℕ). seen_at start entries p ≡ Some seen) (sym same) w.gives;
      conflict = is.1;
    }

-- ---- states

pub wanted : {A E : Type 0} → (b : Bool) (e : E) (next : Unit {0} → Result A E) (x : A) → (want b e >>= next) ≡ Ok x → (b ≡ true) × (next tt ≡ Ok x)
wanted true e next x h = (refl, h)
wanted false e next x h = cc

turn_runs : (setting : Setting) (entries : List Entry) (hart : ℕ) (e : Entry) → forced setting entries (Turn hart) ≡ Ok e → runs_at setting.start entries (length entries) hart ≡ true
unfolding forced
turn_runs setting entries hart e h =
    (wanted (runs_at setting.start entries (length entries) hart) _ _ e (wanted (nat_lt hart setting.plan.harts) _ _ e h).1).0

pub record StepTo (s : State) (hart : ℕ) : Type 0 where
  pub event : Event
  pub after : State
  pub is : step_of s hart ≡ Some (event, after)

pub step_to : (s : State) (hart : ℕ) (o : Option (Event × State)) → step_of s hart ≡ o → is_some o ≡ true → StepTo s hart
step_to s hart None e h = cc
step_to s hart (Some (event, after)) e h = record { event = event; after = after; is = e }

pub runs_in : (start s : State) (entries : List Entry) (place hart : ℕ) → state_at start entries place ≡ Some s → runs_at start entries place hart ≡ true → is_running_hart (slice_get s.harts hart) ≡ true
unfolding runs_at
runs_in start s entries place hart at runs = sym (ap (λ (o : Option State). option_map_or (λ (s : State). is_running_hart (slice_get s.harts hart)) o false) at) ∙ runs

abbrev Has : State → List Entry → Type 0
Has start entries = IsSome (state_at start entries (length entries))

pub has : {A : Type 0} → (o : Option A) → IsSome o → (x : A) × (o ≡ Some x)
has None h = cc
has (Some x) h = (x, refl)

one_more : StepsOfRunningHarts → (setting : Setting) (entries : List Entry) (e : Entry) → forced setting entries (call_of e) ≡ Ok e → Has setting.start entries → Has setting.start (entries ++ e ∷ [])
one_more steps_of setting entries (Paused h slot) ok some = subst IsSome (sym (state_quiet setting.start entries (Paused h slot) refl)) some
one_more steps_of setting entries (Resumed h) ok some = subst IsSome (sym (state_quiet setting.start entries (Resumed h) refl)) some
one_more steps_of setting entries (Armed a) ok some = subst IsSome (sym (state_quiet setting.start entries (Armed a) refl)) some
one_more steps_of setting entries (Disarmed a) ok some = subst IsSome (sym (state_quiet setting.start entries (Disarmed a) refl)) some
one_more steps_of setting entries (Stepped h) ok some =
    let s = has (state_at setting.start entries (length entries)) some in
    let runs = runs_in setting.start s.0 entries (length entries) h s.1 (turn_runs setting entries h (Stepped h) ok) in
    let t = step_to s.0 h (step_of s.0 h) refl (steps_of s.0 h ∙ runs) in
    subst IsSome (sym (state_step setting.start s.0 t.after entries h t.event s.1 t.is)) refl

pub take_next : (entries : List Entry) (place : ℕ) → place < length entries → (e : Entry) × (slice_get entries place ≡ Some e) × (take (place + 1) entries ≡ take place entries ++ e ∷ [])
take_next [] place below = absurd (omega arith)
take_next (x ∷ xs) zero below = (x, refl, refl)
take_next (x ∷ xs) (suc place) below =
    let rest = take_next xs place (omega arith) in
    (rest.0, rest.1, rw (add-one (suc place)) (ap (λ ys. x ∷ ys) (subst (λ (n : ℕ). take n xs ≡ take place xs ++ rest.0 ∷ []) (add-one place) rest.2)))

states_upto : StepsOfRunningHarts → (setting : Setting) (entries : List Entry) → IsLegal setting entries → (place : ℕ) → place ≤ length entries → Has setting.start (take place entries)
unfolding state_at steps
states_upto steps_of setting entries legal zero below = refl
states_upto steps_of setting entries legal (suc place) below =
    let n = take_next entries place (omega arith) in
    let is : take (suc place) entries ≡ take place entries ++ n.0 ∷ [] = rw (← add-one place) n.2 in
    subst (λ (ys : List Entry). Has setting.start ys) (sym is)
    (one_more steps_of setting (take place entries) n.0 (legal place n.0 n.1) (states_upto steps_of setting entries legal place (omega arith)))

pub states : StepsOfRunningHarts → LegalHasStates
unfolding state_at
states steps_of setting entries legal place below =
    subst IsSome (state_end setting.start (take place entries)) (states_upto steps_of setting entries legal place below)
