-- What the core keeps after one more entry, kind by kind.
use Rattle.std.proofs.Common.{◌≡◌, ℕ, zero, suc, ◌+◌, ◌-◌, ◌≤◌, ◌<◌, Bool, true, false, cond, List, [], ◌∷◌, ◌++◌, length, take, Option, Some, None, Result, Ok, map, set, refl, sym, ap, subst, ◌∙◌, arith, length-append, add-zero, inl, inr}
use Rattle.std.specs.Prelude.{IfSome, ◌==◌, ◌%◌, not, nat_lt, find, filter, slice_get, is_some, option_map, count_by, sum_by}
use Rattle.std.specs.Cmp.{nat_cmp_total}
use Rattle.std.specs.FinSet.{FinSet, contains, insert, remove, len, len-insert, len-remove, contains-empty, empty_of_len}
use Rattle.std.specs.List.{list_any}
use Rattle.std.specs.Ordering.{nat_cmp}
use Rattle.std.proofs.lemmas.Bool.{cases_lt, cases_eq}
use Rattle.std.proofs.lemmas.Bool.Decides.{nat_tests}
use Rattle.std.proofs.lemmas.List.{append-nil, map-append}
use Rattle.std.proofs.lemmas.List.Sums.{sum_by-append}
use Rattle.std.proofs.lemmas.Option.{slice_get_within}
use Rattle.std.proofs.Math.Seq.{take-append_seam}
use Rattle.std.proofs.lemmas.List.{take-append-le}
use Rattle.rv_break.specs.Breakpoints.{Breaks}
use Rattle.rv_break.specs.Slots.{Slots}
use Rattle.rv_break.specs.declared.claim.Seen.{Seen}
use Rattle.rv_collide.specs.Armed.{armed, arms}
use Rattle.rv_collide.specs.Entries.{steps, stepped_at}
use Rattle.rv_collide.specs.First.{seen_at}
use Rattle.rv_collide.specs.Forced.{Setting, Turn, Resume, Arm, Disarm, forced, turn_entry, is_taken, least_free}
use Rattle.rv_collide.specs.Legal.{IsLegal, call_of}
use Rattle.rv_collide.specs.Made.{made}
use Rattle.rv_collide.specs.Next.{next, runs_at, plain}
use Rattle.rv_collide.specs.Pause.{Opening, ended, opening_of, openings, openings_from, resumes, opened as pauses}
use Rattle.rv_collide.specs.StateAt.{state_at}
use Rattle.rv_collide.specs.Verdict.{bytes_at, ending, endings}
use Rattle.rv_collide.specs.declared.ending.Ending.{Ending}
use Rattle.rv_collide.specs.declared.entry.Entry.{Entry}
use Rattle.rv_collide.specs.declared.entry.Entry.TheVariants.{Stepped, Paused, Resumed, Armed, Disarmed}
use Rattle.rv_collide.specs.declared.open_pause.OpenPause.{OpenPause}
use Rattle.rv_collide.specs.internal.Core.{slots_freed, slots_seen, opening, IsKept, AreKept, is_at, is_in, AreApart, slots_of, IsCore}
use Rattle.rv_hart.specs.NextAccess.{accessed}
use Rattle.rv_hart.specs.ReservationLaws.{NextIsMade}
use Rattle.rv_hart.specs.State.{State, Guest}
use Rattle.rv_hart.specs.Step.{step_of}
use Rattle.rv_hart.specs.StepLaws.{OutputLaw}
use Rattle.rv_hart.specs.declared.access.Access.{Access}
use Rattle.rv_hart.specs.declared.access.Event.{Event}
use Rattle.rv_collide.proofs.ArmedLemmas.{armed_after, armed_push}
use Rattle.rv_collide.proofs.Endings.{endings_stay, endings_resume}
use Rattle.rv_collide.proofs.LawLemmas.{wanted, some_same, find_within}
use Rattle.rv_collide.proofs.Lists.{any_is_some}
use Rattle.rv_collide.proofs.Openings.{openings_push, openings_resume, without_hart}
use Rattle.rv_collide.proofs.Places.{bytes_front}
use Rattle.rv_collide.proofs.Prefix.{state_front, get_front, get_last, next_front, state_quiet, state_step, steps_quiet, steps_step}
use Rattle.rv_collide.proofs.Resumptions.{apart_filter, apart_push, slots_resume, slots_resume_none}
use Rattle.rv_collide.proofs.Slots.{openings_pause, seen_none, slots_quiet, slots_shown, slots_pause, slots_pause_none}

-- ---- legal

at_end : (xs : List Entry) (e entry : Entry) (place : ℕ) → length xs ≤ place → slice_get (xs ++ e ∷ []) place ≡ Some entry → place ≡ length xs
at_end xs e entry place le there =
    let within = slice_get_within (xs ++ e ∷ []) place entry there in
    let size = length-append xs (e ∷ []) in
    omega arith

pub legal_push : (setting : Setting) (xs : List Entry) (e : Entry) → IsLegal setting xs → forced setting xs (call_of e) ≡ Ok e → IsLegal setting (xs ++ e ∷ [])
legal_push setting xs e legal ok place entry there =
    elim (cases_lt place (length xs)) [
      | inl lt ↦ ap (λ (ys : List Entry). forced setting ys (call_of entry)) (take-append-le place xs (e ∷ []) (omega arith)) ∙ legal place entry (sym (get_front xs (e ∷ []) place lt) ∙ there)
      | inr le ↦
          let end = at_end xs e entry place le there in
          let same : e ≡ entry = some_same e entry (sym (get_last xs e) ∙ ap (slice_get (xs ++ e ∷ [])) (sym end) ∙ there) in
          ap (λ (ys : List Entry). forced setting ys (call_of entry)) (ap (λ n. take n (xs ++ e ∷ [])) end ∙ take-append_seam xs (e ∷ []))
          ∙ subst (λ (x : Entry). forced setting xs (call_of x) ≡ Ok x) same ok
    ]

-- ---- what is kept of open pauses

kept_one : (slot_count : ℕ) (start : State) (xs : List Entry) (e : Entry) (p : OpenPause) → IsKept slot_count start xs p → IsKept slot_count start (xs ++ e ∷ []) p
kept_one slot_count start xs e p k =
    let lt = k.before in
    record {
      before = (let size = length-append xs (e ∷ []) in omega arith);
      access = next_front start xs (e ∷ []) p.place p.hart (omega arith) ∙ k.access;
      old = k.old ∙ sym (bytes_front start xs (e ∷ []) p.place p.access (omega arith));
      within = k.within;
    }

pub kept_push : (slot_count : ℕ) (start : State) (xs : List Entry) (e : Entry) (ps : List OpenPause) → AreKept slot_count start xs ps → AreKept slot_count start (xs ++ e ∷ []) ps
kept_push slot_count start xs e [] kept = tt
kept_push slot_count start xs e (p ∷ ps) kept = (kept_one slot_count start xs e p kept.0, kept_push slot_count start xs e ps kept.1)

kept_append : (slot_count : ℕ) (start : State) (xs : List Entry) (ps : List OpenPause) (p : OpenPause) → AreKept slot_count start xs ps → IsKept slot_count start xs p → AreKept slot_count start xs (ps ++ p ∷ [])
kept_append slot_count start xs [] p kept one = (one, tt)
kept_append slot_count start xs (q ∷ ps) p kept one = (kept.0, kept_append slot_count start xs ps p kept.1 one)

kept_filter : (slot_count : ℕ) (start : State) (xs : List Entry) (t : OpenPause → Bool) (ps : List OpenPause) → AreKept slot_count start xs ps → AreKept slot_count start xs (filter t ps)
kept_filter slot_count start xs t [] kept = tt
kept_filter slot_count start xs t (p ∷ ps) kept =
    elim (t p) as (λ b. AreKept slot_count start xs (cond b (p ∷ filter t ps) (filter t ps))) [ true ↦ (kept.0, kept_filter slot_count start xs t ps kept.1) | false ↦ kept_filter slot_count start xs t ps kept.1 ]

pub kept_found : (slot_count : ℕ) (start : State) (xs : List Entry) (t : OpenPause → Bool) (ps : List OpenPause) (p : OpenPause) → AreKept slot_count start xs ps → find t ps ≡ Some p → IsKept slot_count start xs p
kept_found slot_count start xs t [] p kept found = cc
kept_found slot_count start xs t (q ∷ ps) p kept found =
    elim (t q) as (λ b. cond b (Some q) (find t ps) ≡ Some p → IsKept slot_count start xs p) [
      | true ↦ λ e. subst (λ (r : OpenPause). IsKept slot_count start xs r) (some_same q p e) kept.0
      | false ↦ λ e. kept_found slot_count start xs t ps p kept.1 e
    ] found

opening_filter : (h : ℕ) (ps : List OpenPause) → map opening (filter (λ (p : OpenPause). not (p.hart == h)) ps) ≡ without_hart h (map opening ps)
opening_filter h [] = refl
opening_filter h (p ∷ ps) =
    elim (p.hart == h) as (λ b. map opening (cond (not b) (p ∷ filter (λ (p : OpenPause). not (p.hart == h)) ps) (filter (λ (p : OpenPause). not (p.hart == h)) ps)) ≡ cond (not b) (opening p ∷ without_hart h (map opening ps)) (without_hart h (map opening ps))) [
      | true ↦ opening_filter h ps
      | false ↦ ap (λ os. opening p ∷ os) (opening_filter h ps)
    ]

find_opening : (h : ℕ) (ps : List OpenPause) → find (λ (o : Opening). o.hart == h) (map opening ps) ≡ option_map opening (find (λ (p : OpenPause). p.hart == h) ps)
find_opening h [] = refl
find_opening h (p ∷ ps) =
    elim (p.hart == h) as (λ b. cond b (Some (opening p)) (find (λ (o : Opening). o.hart == h) (map opening ps)) ≡ option_map opening (cond b (Some p) (find (λ (p : OpenPause). p.hart == h) ps))) [
      | true ↦ refl
      | false ↦ find_opening h ps
    ]

-- a hart's open pause as it is kept
pub opening_kept : (xs : List Entry) (opened : List OpenPause) (h : ℕ) → map opening opened ≡ openings xs → opening_of xs h ≡ option_map opening (find (λ (p : OpenPause). p.hart == h) opened)
unfolding opening_of
opening_kept xs opened h are = ap (find (λ (o : Opening). o.hart == h)) (sym are) ∙ find_opening h opened

-- ---- numbers

pub count_push : (xs : List Entry) (e : Entry) (n : ℕ) → sum_by (λ x. cond (arms x) 1 0) (e ∷ []) ≡ n → count_by arms (xs ++ e ∷ []) ≡ count_by arms xs + n
count_push xs e n is = sum_by-append (λ x. cond (arms x) 1 0) xs (e ∷ []) ∙ ap (λ k. count_by arms xs + k) is

pub size_push : (xs : List Entry) (e : Entry) → length (xs ++ e ∷ []) ≡ length xs + 1
size_push xs e = length-append xs (e ∷ [])

not_both : (b : Bool) → b ≡ true → b ≡ false → ⊥
not_both true h g = cc
not_both false h g = cc

not_zero : (n : ℕ) → (n ≡ 0 → ⊥) → 1 ≤ n
not_zero zero h = absurd (h refl)
not_zero (suc n) h = omega arith

pub some_len : (s : FinSet nat_cmp) (a : ℕ) → contains s a ≡ true → 1 ≤ len s
some_len s a there =
    elim (cases_eq (len s) 0) [
      | inl none ↦ absurd (not_both (contains s a) there (ap (λ (t : FinSet nat_cmp). contains t a) (empty_of_len s none) ∙ contains-empty nat_cmp a))
      | inr some ↦ not_zero (len s) some
    ]

back : (n : ℕ) → 1 ≤ n → (n - 1) + 1 ≡ n
back n h = omega arith

pub len_without : (s : FinSet nat_cmp) (a : ℕ) → contains s a ≡ true → len (remove s a) + 1 ≡ len s
len_without s a there = ap (λ k. k + 1) (len-remove nat_cmp_total s a ∙ ap (λ b. cond b (len s - 1) (len s)) there) ∙ back (len s) (some_len s a there)

pub len_with : (s : FinSet nat_cmp) (a : ℕ) → contains s a ≡ false → len (insert s a) ≡ len s + 1
len_with s a absent = len-insert nat_cmp_total s a ∙ ap (λ b. cond b (len s) (len s + 1)) absent

below_of : (a b : ℕ) → nat_lt a b ≡ true → a < b
below_of a b h = grind (arith, nat_tests)

not_false : (b : Bool) → not b ≡ true → b ≡ false
not_false true h = cc
not_false false h = refl

-- ---- what a forced call says

pub record TurnParts (setting : Setting) (xs : List Entry) (h : ℕ) (e : Entry) : Type 0 where
  pub runs : runs_at setting.start xs (length xs) h ≡ true
  pub not_open : is_some (opening_of xs h) ≡ false
  pub left : length (steps xs) < setting.plan.steps
  pub is : turn_entry setting xs h (plain setting.start xs (length xs) h) ≡ e

ok_same : {A E : Type 0} → (x y : A) → ◌≡◌ {A = Result A E} (Ok x) (Ok y) → x ≡ y
ok_same x y h = cc

pub turn_parts : (setting : Setting) (xs : List Entry) (h : ℕ) (e : Entry) → forced setting xs (Turn h) ≡ Ok e → TurnParts setting xs h e
unfolding forced
turn_parts setting xs h e ok =
    let a = wanted (nat_lt h setting.plan.harts) _ _ e ok in
    let b = wanted (runs_at setting.start xs (length xs) h) _ _ e a.1 in
    let c = wanted (not (is_some (opening_of xs h))) _ _ e b.1 in
    let d = wanted (nat_lt (length (steps xs)) setting.plan.steps) _ _ e c.1 in
    record { runs = b.0; not_open = not_false (is_some (opening_of xs h)) c.0; left = below_of (length (steps xs)) setting.plan.steps d.0; is = ok_same _ e d.1 }

pub record ArmParts (setting : Setting) (xs : List Entry) (a : ℕ) : Type 0 where
  pub left : count_by arms xs < setting.plan.arms
  pub absent : contains (armed setting.start xs) a ≡ false

pub arm_parts : (setting : Setting) (xs : List Entry) (a : ℕ) (e : Entry) → forced setting xs (Arm a) ≡ Ok e → ArmParts setting xs a
unfolding forced
arm_parts setting xs a e ok =
    let p = wanted (nat_lt (count_by arms xs) setting.plan.arms) _ _ e ok in
    let q = wanted (a % 4 == 0) _ _ e p.1 in
    let r = wanted (not (contains (armed setting.start xs) a)) _ _ e q.1 in
    record { left = below_of (count_by arms xs) setting.plan.arms p.0; absent = not_false (contains (armed setting.start xs) a) r.0 }

pub disarm_part : (setting : Setting) (xs : List Entry) (a : ℕ) (e : Entry) → forced setting xs (Disarm a) ≡ Ok e → contains (armed setting.start xs) a ≡ true
unfolding forced
disarm_part setting xs a e ok = (wanted (contains (armed setting.start xs) a) _ _ e ok).0

pub resume_part : (setting : Setting) (xs : List Entry) (h : ℕ) (e : Entry) → forced setting xs (Resume h) ≡ Ok e → is_some (opening_of xs h) ≡ true
unfolding forced
resume_part setting xs h e ok =
    let a = wanted (nat_lt h setting.plan.harts) _ _ e ok in (wanted (is_some (opening_of xs h)) _ _ e a.1).0

-- ---- the core after an entry

pub quiet_openings : (xs : List Entry) (e : Entry) → ((h : ℕ) → resumes h e ≡ false) → ((place : ℕ) → pauses place e [] ≡ []) → openings (xs ++ e ∷ []) ≡ openings xs
unfolding openings
quiet_openings xs e none nothing = openings_push 0 xs e none ∙ ap (λ os. openings_from 0 xs ++ os) (nothing (0 + length xs)) ∙ append-nil (openings_from 0 xs)

pub core_arm : (setting : Setting) (xs : List Entry) (m : Guest) (b b' : Breaks) (opened : List OpenPause) (told : List Ending) (sm am a : ℕ) → IsCore setting xs m b opened told sm am → forced setting xs (Arm a) ≡ Ok (Armed a) → b'.armed ≡ insert b.armed a → b'.slots ≡ b.slots → IsCore setting (xs ++ Armed a ∷ []) m b' opened told sm (am + 1)
core_arm setting xs m b b' opened told sm am a c ok armed_now slots_now =
    let parts = arm_parts setting xs a (Armed a) ok in
    let count = count_push xs (Armed a) 1 refl in
    let same_steps = steps_quiet xs (Armed a) refl in
    let same_openings = quiet_openings xs (Armed a) (λ h. refl) (λ place. refl) in
    let set_now : armed setting.start (xs ++ Armed a ∷ []) ≡ insert (armed setting.start xs) a = armed_push setting.start xs (Armed a) in
    let size = ap len set_now ∙ len_with (armed setting.start xs) a parts.absent in
    record {
      legal = legal_push setting xs (Armed a) c.legal ok;
      now = state_quiet setting.start xs (Armed a) refl ∙ c.now;
      harts = c.harts;
      limit = c.limit;
      output = subst (λ (ys : List ℕ). length m.state.output ≤ length setting.start.output + length ys) (sym same_steps) c.output;
      counted = c.counted ∙ sym (ap length same_steps);
      arms_counted = ap (λ n. n + 1) c.arms_counted ∙ sym count;
      armed_are = armed_now ∙ ap (λ s. insert s a) c.armed_are ∙ sym set_now;
      slots_are = slots_now ∙ c.slots_are ∙ sym (slots_quiet setting.plan.slots setting.start xs (Armed a) same_openings (seen_none setting.start xs (Armed a) refl));
      openings_are = c.openings_are ∙ sym same_openings;
      kept = kept_push setting.plan.slots setting.start xs (Armed a) opened c.kept;
      apart = subst AreApart (sym same_openings) c.apart;
      endings_are = c.endings_are ∙ sym (endings_stay setting.start xs (Armed a) refl);
      room = (
          let r = c.room in
          let r1 = r.steps_left in let r2 = r.arms_left in let r3 = r.few in let r4 = r.few_endings in let r5 = parts.left in
          let n1 = ap length same_steps in let n2 = ap length same_openings in let n3 = size_push xs (Armed a) in
          record { steps_left = omega arith; arms_left = omega arith; few = omega arith; few_endings = omega arith }
          );
    }

pub core_disarm : (setting : Setting) (xs : List Entry) (m : Guest) (b b' : Breaks) (opened : List OpenPause) (told : List Ending) (sm am a : ℕ) → IsCore setting xs m b opened told sm am → forced setting xs (Disarm a) ≡ Ok (Disarmed a) → b'.armed ≡ remove b.armed a → b'.slots ≡ b.slots → IsCore setting (xs ++ Disarmed a ∷ []) m b' opened told sm am
core_disarm setting xs m b b' opened told sm am a c ok armed_now slots_now =
    let there = disarm_part setting xs a (Disarmed a) ok in
    let count = count_push xs (Disarmed a) 0 refl ∙ add-zero (count_by arms xs) in
    let same_steps = steps_quiet xs (Disarmed a) refl in
    let same_openings = quiet_openings xs (Disarmed a) (λ h. refl) (λ place. refl) in
    let set_now : armed setting.start (xs ++ Disarmed a ∷ []) ≡ remove (armed setting.start xs) a = armed_push setting.start xs (Disarmed a) in
    let size = ap (λ (s : FinSet nat_cmp). len s + 1) set_now ∙ len_without (armed setting.start xs) a there in
    record {
      legal = legal_push setting xs (Disarmed a) c.legal ok;
      now = state_quiet setting.start xs (Disarmed a) refl ∙ c.now;
      harts = c.harts;
      limit = c.limit;
      output = subst (λ (ys : List ℕ). length m.state.output ≤ length setting.start.output + length ys) (sym same_steps) c.output;
      counted = c.counted ∙ sym (ap length same_steps);
      arms_counted = c.arms_counted ∙ sym count;
      armed_are = armed_now ∙ ap (λ s. remove s a) c.armed_are ∙ sym set_now;
      slots_are = slots_now ∙ c.slots_are ∙ sym (slots_quiet setting.plan.slots setting.start xs (Disarmed a) same_openings (seen_none setting.start xs (Disarmed a) refl));
      openings_are = c.openings_are ∙ sym same_openings;
      kept = kept_push setting.plan.slots setting.start xs (Disarmed a) opened c.kept;
      apart = subst AreApart (sym same_openings) c.apart;
      endings_are = c.endings_are ∙ sym (endings_stay setting.start xs (Disarmed a) refl);
      room = (
          let r = c.room in
          let r1 = r.steps_left in let r2 = r.arms_left in let r3 = r.few in let r4 = r.few_endings in
          let n1 = ap length same_steps in let n2 = ap length same_openings in let n3 = size_push xs (Disarmed a) in
          record { steps_left = omega arith; arms_left = omega arith; few = omega arith; few_endings = omega arith }
          );
    }

-- ---- a step

seen_step : NextIsMade → (start s t : State) (xs : List Entry) (h : ℕ) (event : Event) → state_at start xs (length xs) ≡ Some s → step_of s h ≡ Some (event, t) → seen_at start (xs ++ Stepped h ∷ []) (length xs) ≡ option_map (λ access. record { place = length xs; hart = h; access = access }) (accessed event)
unfolding seen_at made stepped_at next
seen_step next_is start s t xs h event at step =
    rw (get_last xs (Stepped h), state_front start xs (Stepped h ∷ []) (length xs) (omega arith), at, next_is s t h event step) refl

slots_by : (slot_count : ℕ) (start : State) (xs : List Entry) (e : Entry) (seen : Option Seen) → openings (xs ++ e ∷ []) ≡ openings xs → seen_at start (xs ++ e ∷ []) (length xs) ≡ seen → slots_of slot_count start (xs ++ e ∷ []) ≡ slots_seen seen (slots_of slot_count start xs)
slots_by slot_count start xs e None same is = slots_quiet slot_count start xs e same is
slots_by slot_count start xs e (Some seen) same is = slots_shown slot_count start xs e seen same is

pub grown : OutputLaw → (s t : State) (h : ℕ) (event : Event) (n : ℕ) → step_of s h ≡ Some (event, t) → length s.output ≤ n → length t.output ≤ n + 1
grown law s t h event n step le =
    let g = law s t h event step in
    let size = ap length g.2 ∙ length-append s.output g.0 in
    let one = g.1 in
    omega arith

pub core_step : NextIsMade → OutputLaw → (setting : Setting) (xs : List Entry) (m m' : Guest) (b b' : Breaks) (opened : List OpenPause) (told : List Ending) (sm am h : ℕ) (event : Event) → IsCore setting xs m b opened told sm am → forced setting xs (Turn h) ≡ Ok (Stepped h) → step_of m.state h ≡ Some (event, m'.state) → length m'.state.harts ≡ length m.state.harts → m'.limit ≡ m.limit → b'.armed ≡ b.armed → b'.slots ≡ slots_seen (option_map (λ access. record { place = length xs; hart = h; access = access }) (accessed event)) b.slots → IsCore setting (xs ++ Stepped h ∷ []) m' b' opened told (sm + 1) am
core_step next_is output_law setting xs m m' b b' opened told sm am h event c ok step harts_now limit_now armed_now slots_now =
    let parts = turn_parts setting xs h (Stepped h) ok in
    let count = count_push xs (Stepped h) 0 refl ∙ add-zero (count_by arms xs) in
    let more_steps = ap length (steps_step xs h) ∙ length-append (steps xs) (h ∷ []) in
    let same_openings = quiet_openings xs (Stepped h) (λ k. refl) (λ place. refl) in
    let set_now : armed setting.start (xs ++ Stepped h ∷ []) ≡ armed setting.start xs = armed_push setting.start xs (Stepped h) in
    let size = ap len set_now in
    let seen = seen_step next_is setting.start m.state m'.state xs h event c.now step in
    record {
      legal = legal_push setting xs (Stepped h) c.legal ok;
      now = state_step setting.start m.state m'.state xs h event c.now step;
      harts = harts_now ∙ c.harts;
      limit = subst (λ (n : ℕ). length setting.start.output + setting.plan.steps ≤ n) (sym limit_now) c.limit;
      output = (let g = grown output_law m.state m'.state h event (length setting.start.output + length (steps xs)) step c.output in omega arith);
      counted = ap (λ n. n + 1) c.counted ∙ sym more_steps;
      arms_counted = c.arms_counted ∙ sym count;
      armed_are = armed_now ∙ c.armed_are ∙ sym set_now;
      slots_are = slots_now ∙ ap (slots_seen (option_map (λ access. record { place = length xs; hart = h; access = access }) (accessed event))) c.slots_are ∙ sym (slots_by setting.plan.slots setting.start xs (Stepped h) _ same_openings seen);
      openings_are = c.openings_are ∙ sym same_openings;
      kept = kept_push setting.plan.slots setting.start xs (Stepped h) opened c.kept;
      apart = subst AreApart (sym same_openings) c.apart;
      endings_are = c.endings_are ∙ sym (endings_stay setting.start xs (Stepped h) refl);
      room = (
          let r = c.room in
          let r1 = r.steps_left in let r2 = r.arms_left in let r3 = r.few in let r4 = r.few_endings in let r5 = parts.left in
          let n2 = ap length same_openings in let n3 = size_push xs (Stepped h) in
          record { steps_left = omega arith; arms_left = omega arith; few = omega arith; few_endings = omega arith }
          );
    }

-- ---- a pause

abbrev pub slots_claimed : Option ℕ → ℕ → Access → Slots → Slots
slots_claimed None h access slots = slots
slots_claimed (Some slot) h access slots = set slots slot (Some (record { hart = h; access = access; seen = None }))

free_is : (slot_count : ℕ) (xs : List Entry) (slot : ℕ) → least_free slot_count xs ≡ Some slot → not (is_taken xs slot) ≡ true
unfolding least_free
free_is slot_count xs slot found = (find_within (λ s. not (is_taken xs s)) 0 slot_count slot found).passes

slots_pause_any : (slot_count : ℕ) (start : State) (xs : List Entry) (h : ℕ) (slot : Option ℕ) (access : Access) → next start xs (length xs) h ≡ Some access → least_free slot_count xs ≡ slot → slots_of slot_count start (xs ++ Paused h slot ∷ []) ≡ slots_claimed slot h access (slots_of slot_count start xs)
slots_pause_any slot_count start xs h None access would free = slots_pause_none slot_count start xs h
slots_pause_any slot_count start xs h (Some slot) access would free = slots_pause slot_count start xs h slot access would (free_is slot_count xs slot free)

pub free_within : (slot_count : ℕ) (xs : List Entry) (slot : Option ℕ) → least_free slot_count xs ≡ slot → IfSome slot (λ s. s < slot_count)
unfolding least_free
free_within slot_count xs None free = tt
free_within slot_count xs (Some slot) free = let w = find_within (λ s. not (is_taken xs s)) 0 slot_count slot free in let below = w.below in omega arith

not_taken : (slot_count : ℕ) (xs : List Entry) (slot : Option ℕ) → least_free slot_count xs ≡ slot → is_in slot (openings xs) ≡ false
unfolding is_taken
not_taken slot_count xs None free = refl
not_taken slot_count xs (Some slot) free = not_false (list_any (is_at slot) (openings xs)) (free_is slot_count xs slot free)

no_hart_open : (xs : List Entry) (h : ℕ) → is_some (opening_of xs h) ≡ false → list_any (λ (o : Opening). o.hart == h) (openings xs) ≡ false
unfolding opening_of
no_hart_open xs h none = any_is_some (λ (o : Opening). o.hart == h) (openings xs) ∙ none

named : (h hart n place : ℕ) (slot : Option ℕ) → hart ≡ h → place ≡ n → (let o : Opening = record { hart = h; slot = slot; place = n } in o) ≡ record { hart = hart; slot = slot; place = place }
named h hart n place slot own here = rw (own, here) refl

abbrev after_mention : Option Access → FinSet nat_cmp → FinSet nat_cmp
after_mention would s = armed_after (option_map (λ (access : Access). record { address = access.pc; arms = false }) would) s

pub core_pause : (setting : Setting) (xs : List Entry) (m : Guest) (b b' : Breaks) (opened : List OpenPause) (told : List Ending) (sm am h : ℕ) (p : OpenPause) → IsCore setting xs m b opened told sm am → forced setting xs (Turn h) ≡ Ok (Paused h p.slot) → least_free setting.plan.slots xs ≡ p.slot → p.hart ≡ h → p.place ≡ length xs → next setting.start xs (length xs) h ≡ Some p.access → contains (armed setting.start xs) p.access.pc ≡ true → p.old ≡ bytes_at setting.start xs (length xs) p.access → b'.armed ≡ remove b.armed p.access.pc → b'.slots ≡ slots_claimed p.slot h p.access b.slots → IsCore setting (xs ++ Paused h p.slot ∷ []) m b' (opened ++ p ∷ []) told sm am
core_pause setting xs m b b' opened told sm am h p c ok free own here would there old armed_now slots_now =
    let parts = turn_parts setting xs h (Paused h p.slot) ok in
    let count = count_push xs (Paused h p.slot) 0 refl ∙ add-zero (count_by arms xs) in
    let same_steps = steps_quiet xs (Paused h p.slot) refl in
    let one : openings (xs ++ Paused h p.slot ∷ []) ≡ openings xs ++ opening p ∷ [] = openings_pause xs h p.slot ∙ ap (λ (o : Opening). openings xs ++ o ∷ []) (named h p.hart (length xs) p.place p.slot own here) in
    let set_now : armed setting.start (xs ++ Paused h p.slot ∷ []) ≡ remove (armed setting.start xs) p.access.pc = armed_push setting.start xs (Paused h p.slot) ∙ ap (λ a. after_mention a (armed setting.start xs)) would in
    let size = ap (λ (s : FinSet nat_cmp). len s + 1) set_now ∙ len_without (armed setting.start xs) p.access.pc there in
    let kept_p : IsKept setting.plan.slots setting.start (xs ++ Paused h p.slot ∷ []) p = record {
      before = (let n = size_push xs (Paused h p.slot) in omega arith);
      access = next_front setting.start xs (Paused h p.slot ∷ []) p.place p.hart (omega arith) ∙ ap (λ k. next setting.start xs k p.hart) here ∙ ap (next setting.start xs (length xs)) own ∙ would;
      old = old ∙ ap (λ k. bytes_at setting.start xs k p.access) (sym here) ∙ sym (bytes_front setting.start xs (Paused h p.slot ∷ []) p.place p.access (omega arith));
      within = free_within setting.plan.slots xs p.slot free;
    } in
    record {
      legal = legal_push setting xs (Paused h p.slot) c.legal ok;
      now = state_quiet setting.start xs (Paused h p.slot) refl ∙ c.now;
      harts = c.harts;
      limit = c.limit;
      output = subst (λ (ys : List ℕ). length m.state.output ≤ length setting.start.output + length ys) (sym same_steps) c.output;
      counted = c.counted ∙ sym (ap length same_steps);
      arms_counted = c.arms_counted ∙ sym count;
      armed_are = armed_now ∙ ap (λ s. remove s p.access.pc) c.armed_are ∙ sym set_now;
      slots_are = slots_now ∙ ap (slots_claimed p.slot h p.access) c.slots_are ∙ sym (slots_pause_any setting.plan.slots setting.start xs h p.slot p.access would free);
      openings_are = map-append opening opened (p ∷ []) ∙ ap (λ os. os ++ opening p ∷ []) c.openings_are ∙ sym one;
      kept = kept_append setting.plan.slots setting.start (xs ++ Paused h p.slot ∷ []) opened p (kept_push setting.plan.slots setting.start xs (Paused h p.slot) opened c.kept) kept_p;
      apart = subst AreApart (sym one) (apart_push (openings xs) (opening p) c.apart (ap (λ k. list_any (λ (o : Opening). o.hart == k) (openings xs)) own ∙ no_hart_open xs h parts.not_open) (not_taken setting.plan.slots xs p.slot free));
      endings_are = c.endings_are ∙ sym (endings_stay setting.start xs (Paused h p.slot) refl);
      room = (
          let r = c.room in
          let r1 = r.steps_left in let r2 = r.arms_left in let r3 = r.few in let r4 = r.few_endings in
          let n1 = ap length same_steps in let n2 = ap length one ∙ length-append (openings xs) (opening p ∷ []) in let n3 = size_push xs (Paused h p.slot) in
          record { steps_left = omega arith; arms_left = omega arith; few = omega arith; few_endings = omega arith }
          );
    }

-- ---- a resumption

slots_resume_any : (slot_count : ℕ) (start : State) (xs : List Entry) (h : ℕ) (o : Opening) (slot : Option ℕ) → AreApart (openings xs) → opening_of xs h ≡ Some o → o.slot ≡ slot → slots_of slot_count start (xs ++ Resumed h ∷ []) ≡ slots_freed slot (slots_of slot_count start xs)
slots_resume_any slot_count start xs h o None apart found is = slots_resume_none slot_count start xs h o apart found is
slots_resume_any slot_count start xs h o (Some slot) apart found is = slots_resume slot_count start xs h slot o apart found is

no_more : (h : ℕ) (os : List Opening) → length (without_hart h os) ≤ length os
no_more h [] = omega arith
no_more h (x ∷ os) = let le = no_more h os in elim (x.hart == h) as (λ b. length (cond (not b) (x ∷ without_hart h os) (without_hart h os)) ≤ length (x ∷ os)) [ true ↦ omega arith | false ↦ omega arith ]

pub openings_after : (xs : List Entry) (h : ℕ) → openings (xs ++ Resumed h ∷ []) ≡ without_hart h (openings xs)
unfolding openings
openings_after xs h = openings_resume 0 h xs

fewer : (h : ℕ) (os : List Opening) (o : Opening) → find (λ (p : Opening). p.hart == h) os ≡ Some o → length (without_hart h os) + 1 ≤ length os
fewer h [] o found = cc
fewer h (x ∷ os) o found =
    elim (x.hart == h) as (λ b. cond b (Some x) (find (λ (p : Opening). p.hart == h) os) ≡ Some o → length (cond (not b) (x ∷ without_hart h os) (without_hart h os)) + 1 ≤ length (x ∷ os)) [
      | true ↦ λ e. let le = no_more h os in omega arith
      | false ↦ λ e. let le = fewer h os o e in omega arith
    ] found

pub fewer_open : (xs : List Entry) (h : ℕ) (o : Opening) → opening_of xs h ≡ Some o → length (without_hart h (openings xs)) + 1 ≤ length (openings xs)
unfolding opening_of
fewer_open xs h o found = fewer h (openings xs) o found

pub core_resume : (setting : Setting) (xs : List Entry) (m : Guest) (b b' : Breaks) (opened : List OpenPause) (told : List Ending) (sm am h : ℕ) (p : OpenPause) (told' : Ending) → IsCore setting xs m b opened told sm am → forced setting xs (Resume h) ≡ Ok (Resumed h) → find (λ (q : OpenPause). q.hart == h) opened ≡ Some p → b'.armed ≡ b.armed → b'.slots ≡ slots_freed p.slot b.slots → told' ≡ ending setting.start xs (ended (length xs) (opening p)) p.access → IsCore setting (xs ++ Resumed h ∷ []) m b' (filter (λ (q : OpenPause). not (q.hart == h)) opened) (told ++ told' ∷ []) sm am
core_resume setting xs m b b' opened told sm am h p told' c ok found armed_now slots_now told_is =
    let of_h : opening_of xs h ≡ Some (opening p) = opening_kept xs opened h c.openings_are ∙ ap (option_map opening) found in
    let k = kept_found setting.plan.slots setting.start xs (λ (q : OpenPause). q.hart == h) opened p c.kept found in
    let count = count_push xs (Resumed h) 0 refl ∙ add-zero (count_by arms xs) in
    let same_steps = steps_quiet xs (Resumed h) refl in
    let one : openings (xs ++ Resumed h ∷ []) ≡ without_hart h (openings xs) = openings_after xs h in
    let set_now : armed setting.start (xs ++ Resumed h ∷ []) ≡ armed setting.start xs = armed_push setting.start xs (Resumed h) in
    record {
      legal = legal_push setting xs (Resumed h) c.legal ok;
      now = state_quiet setting.start xs (Resumed h) refl ∙ c.now;
      harts = c.harts;
      limit = c.limit;
      output = subst (λ (ys : List ℕ). length m.state.output ≤ length setting.start.output + length ys) (sym same_steps) c.output;
      counted = c.counted ∙ sym (ap length same_steps);
      arms_counted = c.arms_counted ∙ sym count;
      armed_are = armed_now ∙ c.armed_are ∙ sym set_now;
      slots_are = slots_now ∙ ap (slots_freed p.slot) c.slots_are ∙ sym (slots_resume_any setting.plan.slots setting.start xs h (opening p) p.slot c.apart of_h refl);
      openings_are = opening_filter h opened ∙ ap (without_hart h) c.openings_are ∙ sym one;
      kept = kept_filter setting.plan.slots setting.start (xs ++ Resumed h ∷ []) (λ (q : OpenPause). not (q.hart == h)) opened (kept_push setting.plan.slots setting.start xs (Resumed h) opened c.kept);
      apart = subst AreApart (sym one) (apart_filter (λ (o : Opening). not (o.hart == h)) (openings xs) c.apart);
      endings_are = ap (λ es. es ++ told' ∷ []) c.endings_are ∙ ap (λ e. endings setting.start xs ++ e ∷ []) told_is ∙ sym (endings_resume setting.start xs h (opening p) p.access of_h k.access);
      room = (
          let r = c.room in
          let r1 = r.steps_left in let r2 = r.arms_left in let r3 = r.few in let r4 = r.few_endings in
          let n1 = ap length same_steps in let n2 = ap length one in let n3 = size_push xs (Resumed h) in let n4 = fewer_open xs h (opening p) of_h in
          let n5 = length-append told (told' ∷ []) in let n6 = ap len set_now in
          record { steps_left = omega arith; arms_left = omega arith; few = omega arith; few_endings = omega arith }
          );
    }
