-- What a driver knows ahead, after a step whose hart goes on.
use Rattle.std.proofs.Common.{◌≡◌, ◌≢◌, ℕ, zero, suc, ◌+◌, ◌-◌, ◌≤◌, ◌<◌, inl, inr, Bool, true, false, cond, List, [], ◌∷◌, ◌++◌, length, map, Option, Some, None, refl, sym, ap, ◌∙◌, arith, length-append, length-set, add-one}
use Rattle.std.specs.Prelude.{◌==◌, ◌&&◌, ◌||◌, not, nat_lt, filter, find, is_some, option_and_then, slice_get, slice_index, IfNone, IfSome, IsSomeAnd}
use Rattle.std.specs.List.{list_any, range_with_len}
use Rattle.std.specs.Option.{option_map_or}
use Rattle.std.proofs.lemmas.Bool.{cases_eq, cases_lt}
use Rattle.std.proofs.lemmas.Bool.Decides.{nat_tests}
use Rattle.std.proofs.lemmas.List.{length-map, take_all}
use Rattle.std.proofs.lemmas.Option.{slice_get_past}
use Rattle.rv_drive.specs.internal.Kept.{IsAhead, IsKept, NoneLasts}
use Rattle.rv_drive.proofs.DueLemmas.{by_count, le_not, not_due}
use Rattle.rv_drive.proofs.KeptLemmas.{is_ready, kept_step, other_is, steps_more}
use Rattle.rv_drive.proofs.RowLemmas.{IsAmong, any_there, count_bound, find_none, kept_by_filter}
use Rattle.rv_drive.proofs.RunsLemmas.{runs_of}
use Rattle.rv_drive.specs.Able.{able, another_is_able, due, is_able, is_due}
use Rattle.rv_drive.specs.declared.ahead.Ahead.{Ahead}
use Rattle.rv_collide.specs.Answers.{IsEvent}
use Rattle.rv_drive.specs.DriverLaws.{PausesGoOn}
use Rattle.rv_collide.specs.Stored.{added, setting_of}
use Rattle.rv_collide.specs.Entries.{steps}
use Rattle.rv_collide.specs.Forced.{Setting}
use Rattle.rv_collide.specs.Next.{runs_at}
use Rattle.rv_collide.specs.Pause.{Opening, opened, opening_of, openings, openings_from, resumes}
use Rattle.rv_collide.specs.StateAt.{state_at}
use Rattle.rv_collide.specs.declared.entry.Entry.{Entry}
use Rattle.rv_collide.specs.declared.entry.Entry.TheVariants.{Stepped, Paused, Resumed, Armed, Disarmed}
use Rattle.rv_hart.specs.Refusals.{is_running_hart}
use Rattle.rv_hart.specs.Run.{run}
use Rattle.rv_hart.specs.State.{State, is_running}
use Rattle.rv_hart.specs.Step.{action_at, hart_after, loaded_by, seen_by, step_by, step_of, step_of_hart, written_by}
use Rattle.rv_hart.specs.StepLaws.{OtherHartsStay, SameButReservation}
use Rattle.rv_hart.specs.declared.access.Event.{Event}
use Rattle.rv_hart.specs.declared.hart.Hart.{Hart}

-- ---- a step begins and ends no pause

resumed_later : (k h : ℕ) (xs : List Entry) → list_any (resumes k) (xs ++ Stepped h ∷ []) ≡ list_any (resumes k) xs
resumed_later k h [] = refl
resumed_later k h (x ∷ xs) = ap (λ b. resumes k x || b) (resumed_later k h xs)

opened_step : (place h : ℕ) (e : Entry) (xs : List Entry) → opened place e (xs ++ Stepped h ∷ []) ≡ opened place e xs
opened_step place h (Paused k slot) xs = ap (λ b. cond b [] (record { hart = k; slot = slot; place = place } ∷ [])) (resumed_later k h xs)
opened_step place h (Stepped k) xs = refl
opened_step place h (Resumed k) xs = refl
opened_step place h (Armed a) xs = refl
opened_step place h (Disarmed a) xs = refl

openings_step : (place h : ℕ) (xs : List Entry) → openings_from place (xs ++ Stepped h ∷ []) ≡ openings_from place xs
unfolding openings_from
openings_step place h [] = refl
openings_step place h (x ∷ xs) =
    ap (λ os. os ++ openings_from (place + 1) (xs ++ Stepped h ∷ [])) (opened_step place h x xs) ∙ ap (λ os. opened place x xs ++ os) (openings_step (place + 1) h xs)

pub opening_step : (xs : List Entry) (h k : ℕ) → opening_of (xs ++ Stepped h ∷ []) k ≡ opening_of xs k
unfolding opening_of openings
opening_step xs h k = ap (find (λ (o : Opening). o.hart == k)) (openings_step 0 h xs)

-- ---- the state after a step

run_more : (s : State) (hs : List ℕ) (h : ℕ) → run s (hs ++ h ∷ []) ≡ option_and_then (λ (t : State). run t (h ∷ [])) (run s hs)
run_more s [] h = refl
run_more s (j ∷ hs) h =
    elim (step_of s j) as (λ o. option_and_then (λ (step : Event × State). run step.1 (hs ++ h ∷ [])) o ≡ option_and_then (λ (t : State). run t (h ∷ [])) (option_and_then (λ (step : Event × State). run step.1 hs) o)) [
      | None ↦ refl
      | Some p ↦ run_more p.1 hs h
    ]

state_step : (start s after : State) (xs : List Entry) (h : ℕ) (event : Event) → state_at start xs (length xs) ≡ Some s → step_of s h ≡ Some (event, after) → state_at start (xs ++ Stepped h ∷ []) (length (xs ++ Stepped h ∷ [])) ≡ Some after
unfolding state_at
state_step start s after xs h event at step =
    let whole : run start (steps xs) ≡ Some s = sym (ap (λ ys. run start (steps ys)) (take_all (length xs) xs (omega arith))) ∙ at in
    ap (λ ys. run start (steps ys)) (take_all (length (xs ++ Stepped h ∷ [])) (xs ++ Stepped h ∷ []) (omega arith))
    ∙ ap (run start) (steps_more xs (Stepped h))
    ∙ run_more start (steps xs) h
    ∙ ap (option_and_then (λ (t : State). run t (h ∷ []))) whole
    ∙ ap (option_and_then (λ (p : Event × State). Some p.1)) step

count_by_step : (s : State) (h : ℕ) (o : Option Hart) → option_map_or (λ (p : Event × State). length p.1.harts) (step_of_hart s h o) (length s.harts) ≡ length s.harts
count_by_step s h None = refl
count_by_step s h (Some hart) =
    elim (is_running hart.status) as (λ b. option_map_or (λ (p : Event × State). length p.1.harts) (cond b (Some (step_by s h hart (action_at s.memory hart))) None) (length s.harts) ≡ length s.harts) [
      | true ↦ (let action = action_at s.memory hart in
          let loaded = loaded_by s.memory action in
          length-set (map (seen_by (written_by loaded hart action)) s.harts) h (hart_after loaded hart action) ∙ length-map s.harts (seen_by (written_by loaded hart action)))
      | false ↦ refl
    ]

as_many : (s after : State) (h : ℕ) (event : Event) → step_of s h ≡ Some (event, after) → length after.harts ≡ length s.harts
unfolding step_of
as_many s after h event step =
    sym (ap (λ o. option_map_or (λ (p : Event × State). length p.1.harts) o (length s.harts)) step) ∙ count_by_step s h (slice_get s.harts h)

some_at : (xs : List Hart) (n : ℕ) → n < length xs → (x : Hart) × (slice_get xs n ≡ Some x)
some_at [] n below = absurd (omega arith)
some_at (x ∷ xs) zero below = (x, refl)
some_at (x ∷ xs) (suc n) below = some_at xs n (omega arith)

same_status : (o : Option Hart) (other : Hart) → IsSomeAnd o (SameButReservation other) → is_running_hart o ≡ is_running other.status
same_status None other h = absurd h
same_status (Some hart) other h = ap is_running h.status

others_run : OtherHartsStay → (s after : State) (h : ℕ) (event : Event) → step_of s h ≡ Some (event, after) → (k : ℕ) → k ≢ h → is_running_hart (slice_get after.harts k) ≡ is_running_hart (slice_get s.harts k)
others_run law s after h event step k ne =
    let same = as_many s after h event step in
    elim (cases_lt k (length s.harts)) [
      | inl lt ↦ (let other = some_at s.harts k lt in
          same_status (slice_get after.harts k) other.0 (law s after h event step k ne other.0 other.1) ∙ ap is_running_hart (sym other.1))
      | inr ge ↦ ap is_running_hart (slice_get_past after.harts k (omega arith) ∙ sym (slice_get_past s.harts k ge))
    ]

runs_step : OtherHartsStay → (start s after : State) (xs : List Entry) (h : ℕ) (event : Event) → state_at start xs (length xs) ≡ Some s → step_of s h ≡ Some (event, after) → (k : ℕ) → k ≢ h → runs_at start (xs ++ Stepped h ∷ []) (length (xs ++ Stepped h ∷ [])) k ≡ runs_at start xs (length xs) k
runs_step law start s after xs h event at step k ne =
    sym (runs_of start after (xs ++ Stepped h ∷ []) (length (xs ++ Stepped h ∷ [])) k (is_running_hart (slice_get after.harts k)) (state_step start s after xs h event at step) refl)
    ∙ others_run law s after h event step k ne
    ∙ runs_of start s xs (length xs) k (is_running_hart (slice_get s.harts k)) at refl

-- ---- the able harts after a step

and_before : (a b c : Bool) → (a && b && c) ≡ true → a ≡ true
and_before true b c h = refl
and_before false b c h = cc

lt_is : (a b : ℕ) → a < b → nat_lt a b ≡ true
lt_is a b h = grind (arith, nat_tests)

pub filter_same_test : (p q : ℕ → Bool) (a n : ℕ) → ((k : ℕ) → p k ≡ q k) → filter p (range_with_len a n) ≡ filter q (range_with_len a n)
filter_same_test p q a zero same = refl
filter_same_test p q a (suc n) same =
    ap (λ b. cond b (a ∷ filter p (range_with_len (a + 1) n)) (filter p (range_with_len (a + 1) n))) (same a)
    ∙ ap (λ (ys : List ℕ). cond (q a) (a ∷ ys) ys) (filter_same_test p q (a + 1) n same)

one_longer : (xs : List ℕ) (x : ℕ) → length (xs ++ x ∷ []) ≡ length xs + 1
one_longer xs x = length-append xs (x ∷ [])

still_able : OtherHartsStay → (setting : Setting) (xs : List Entry) (h : ℕ) (s after : State) (event : Event) → state_at setting.start xs (length xs) ≡ Some s → step_of s h ≡ Some (event, after) → is_able setting xs h ≡ true → runs_at setting.start (xs ++ Stepped h ∷ []) (length (xs ++ Stepped h ∷ [])) h ≡ true → length (steps xs) + 1 < setting.plan.steps → (k : ℕ) → is_able setting (xs ++ Stepped h ∷ []) k ≡ is_able setting xs k
unfolding is_able
still_able law setting xs h s after event at step was goes left k =
    let ys = xs ++ Stepped h ∷ [] in
    let count : length (steps ys) ≡ length (steps xs) + 1 = (let more = ap length (steps_more xs (Stepped h)) in more ∙ one_longer (steps xs) h) in
    let runs : runs_at setting.start ys (length ys) k ≡ runs_at setting.start xs (length xs) k = elim (cases_eq k h) [
      | inl same ↦ ap (runs_at setting.start ys (length ys)) same ∙ goes ∙ sym (and_before (runs_at setting.start xs (length xs) h) (not (is_some (opening_of xs h))) (nat_lt (length (steps xs)) setting.plan.steps) was) ∙ ap (runs_at setting.start xs (length xs)) (sym same)
      | inr ne ↦ runs_step law setting.start s after xs h event at step k ne
    ] in
    ap (λ b. b && not (is_some (opening_of ys k)) && nat_lt (length (steps ys)) setting.plan.steps) runs
    ∙ ap (λ o. runs_at setting.start xs (length xs) k && not (is_some o) && nat_lt (length (steps ys)) setting.plan.steps) (opening_step xs h k)
    ∙ ap (λ b. runs_at setting.start xs (length xs) k && not (is_some (opening_of xs k)) && b) (lt_is (length (steps ys)) setting.plan.steps (omega arith) ∙ sym (lt_is (length (steps xs)) setting.plan.steps (omega arith)))

pub able_step : OtherHartsStay → (setting : Setting) (xs : List Entry) (h : ℕ) (s after : State) (event : Event) → state_at setting.start xs (length xs) ≡ Some s → step_of s h ≡ Some (event, after) → is_able setting xs h ≡ true → runs_at setting.start (xs ++ Stepped h ∷ []) (length (xs ++ Stepped h ∷ [])) h ≡ true → length (steps xs) + 1 < setting.plan.steps → able setting xs ≡ able setting (xs ++ Stepped h ∷ [])
unfolding able
able_step law setting xs h s after event at step was goes left =
    sym (filter_same_test (is_able setting (xs ++ Stepped h ∷ [])) (is_able setting xs) 0 setting.plan.harts (still_able law setting xs h s after event at step was goes left))

pub lasts_step : (setting : Setting) (xs : List Entry) (h : ℕ) (made_at : List ℕ) (earliest : ℕ) → NoneLasts setting xs made_at earliest → NoneLasts setting (xs ++ Stepped h ∷ []) made_at earliest
lasts_step setting xs h made_at earliest before = λ hart o below is. before hart o below (sym (opening_step xs h hart) ∙ is)

pub driver_step : PausesGoOn → OtherHartsStay → (d : Ahead) (h : ℕ) (event : Event) → IsAhead d → is_able (setting_of d.collider) d.collider.entries h ≡ true → IsEvent d.collider h event → runs_at (setting_of d.collider).start (d.collider.entries ++ Stepped h ∷ []) (length (d.collider.entries ++ Stepped h ∷ [])) h ≡ true → d.made + 1 < d.collider.plan.steps → IsAhead (record d { collider = added d.collider (Stepped h); made = d.made + 1 })
driver_step open_law law d h event k was is goes left =
    let made = k.kept.made_is in record {
      kept = kept_step open_law d.collider.entries d.made d.made_at h (is_ready (setting_of d.collider) d.collider.entries h was).free k.kept;
      able_are = k.able_are ∙ able_step law (setting_of d.collider) d.collider.entries h is.state is.after event is.reached is.step was goes (omega (arith, made, left));
      lasts = lasts_step (setting_of d.collider) d.collider.entries h d.made_at d.earliest k.lasts;
      room = k.room;
    }

-- ---- no pause is due

clash : (b : Bool) → b ≡ true → b ≡ false → ⊥
clash b h k = cc

-- an able hart is not paused, so it is another one than a paused one
pub other_able : (setting : Setting) (xs : List Entry) (hart m : ℕ) → is_some (opening_of xs hart) ≡ true → IsAmong (is_able setting xs) 0 setting.plan.harts m → another_is_able setting xs hart ≡ true
unfolding another_is_able able
other_able setting xs hart m is among =
    let ready = is_ready setting xs m among.passes in
    let ne : m ≢ hart = λ same. clash (is_some (opening_of xs hart)) is (ap (λ (n : ℕ). is_some (opening_of xs n)) (sym same) ∙ ready.free) in
    any_there (is_able setting xs) (λ other. not (other == hart)) 0 setting.plan.harts m among.from among.below among.passes (ap not (other_is m hart ne))

first_of : (xs : List ℕ) → 0 < length xs → (x : ℕ) × (slice_get xs 0 ≡ Some x)
first_of [] some = absurd (omega arith)
first_of (x ∷ xs) some = (x, refl)

not_due_yet : (setting : Setting) (xs : List Entry) (made : ℕ) (made_at : List ℕ) (earliest m hart : ℕ) → IsKept xs made made_at → NoneLasts setting xs made_at earliest → made < earliest → IsAmong (is_able setting xs) 0 setting.plan.harts m → hart < setting.plan.harts → (o : Option Opening) → opening_of xs hart ≡ o → is_due setting xs hart ≡ false
not_due_yet setting xs made made_at earliest m hart k lasts early among below None is = sym (not_due setting xs hart (ap is_some is))
not_due_yet setting xs made made_at earliest m hart k lasts early among below (Some o) is =
    let long = lasts hart o below is in
    let since = k.since hart o is in
    let is_open : is_some (opening_of xs hart) ≡ true = ap is_some is in
    by_count setting xs made made_at hart k is_open
    ∙ ap (λ b. b || not (another_is_able setting xs hart)) (le_not setting.plan.pause (made - slice_index made_at hart) (omega (arith, long, since, early)))
    ∙ ap not (other_able setting xs hart m is_open among)

pub none_due : (setting : Setting) (xs : List Entry) (made : ℕ) (made_at row : List ℕ) (earliest : ℕ) → IsKept xs made made_at → row ≡ able setting xs → NoneLasts setting xs made_at earliest → made < earliest → 0 < length row → None ≡ due setting xs
unfolding due able
none_due setting xs made made_at row earliest k are lasts early some =
    let first = first_of row some in
    let among = kept_by_filter (is_able setting xs) 0 setting.plan.harts 0 first.0 (ap (λ (ys : List ℕ). slice_get ys 0) (sym are) ∙ first.1) in
    sym (find_none (is_due setting xs) 0 setting.plan.harts (λ j lo hi. not_due_yet setting xs made made_at earliest first.0 j k lasts early among (omega arith) (opening_of xs j) refl))

-- ---- the loops that look anew

plus_none : (a : ℕ) → a ≡ a + 0
plus_none a = omega arith

shift : (a n : ℕ) → a + 1 + n ≡ a + suc n
shift a n = omega arith

from_zero : (h : ℕ) → h ≡ 0 + h
from_zero h = omega arith

front_of : (b : Bool) (a : ℕ) (xs ys : List ℕ) → cond b (a ∷ xs ++ ys) (xs ++ ys) ≡ cond b (a ∷ xs) xs ++ ys
front_of true a xs ys = refl
front_of false a xs ys = refl

filter_more : (p : ℕ → Bool) (a n : ℕ) → filter p (range_with_len a (n + 1)) ≡ filter p (range_with_len a n) ++ cond (p (a + n)) ((a + n) ∷ []) []
filter_more p a zero = ap (λ (k : ℕ). cond (p k) (k ∷ []) []) (plus_none a)
filter_more p a (suc n) =
    ap (λ (m : ℕ). filter p (range_with_len a m)) (add-one (suc n))
    ∙ ap (λ (ys : List ℕ). cond (p a) (a ∷ ys) ys) (ap (λ (m : ℕ). filter p (range_with_len (a + 1) m)) (sym (add-one n)) ∙ filter_more p (a + 1) n)
    ∙ ap (λ (k : ℕ). cond (p a) (a ∷ filter p (range_with_len (a + 1) n) ++ cond (p k) (k ∷ []) []) (filter p (range_with_len (a + 1) n) ++ cond (p k) (k ∷ []) [])) (shift a n)
    ∙ front_of (p a) a (filter p (range_with_len (a + 1) n)) (cond (p (a + suc n)) ((a + suc n) ∷ []) [])

pub found_more : (p : ℕ → Bool) (h : ℕ) (old new : List ℕ) (b : Bool) → p h ≡ b → old ≡ filter p (range_with_len 0 h) → new ≡ old ++ cond b (h ∷ []) [] → new ≡ filter p (range_with_len 0 (h + 1))
found_more p h old new b is was gives =
    gives
    ∙ ap (λ (ys : List ℕ). ys ++ cond b (h ∷ []) []) was
    ∙ ap (λ c. filter p (range_with_len 0 h) ++ cond c (h ∷ []) []) (sym is)
    ∙ ap (λ (k : ℕ). filter p (range_with_len 0 h) ++ cond (p k) (k ∷ []) []) (from_zero h)
    ∙ sym (filter_more p 0 h)

pub few_able : (setting : Setting) (xs : List Entry) → length (able setting xs) ≤ setting.plan.harts
unfolding able
few_able setting xs = count_bound (is_able setting xs) 0 setting.plan.harts

pub some_len : (n m : ℕ) → (n == 0) ≡ false → n ≡ m → 0 < m
some_len n m h is = grind (arith, nat_tests)

-- ---- the able hart at an index

among : (setting : Setting) (xs : List Entry) (i hart : ℕ) → slice_get (able setting xs) i ≡ Some hart → IsAmong (is_able setting xs) 0 setting.plan.harts hart
unfolding able
among setting xs i hart there = kept_by_filter (is_able setting xs) 0 setting.plan.harts i hart there

pub nth_hart : (setting : Setting) (xs : List Entry) (i : ℕ) (o : Option ℕ) → o ≡ slice_get (able setting xs) i → IfSome o (λ h. h < setting.plan.harts)
nth_hart setting xs i None is = tt
nth_hart setting xs i (Some h) is = (let below = (among setting xs i h (sym is)).below in omega arith)

pub nth_able : (setting : Setting) (xs : List Entry) (i : ℕ) (o : Option ℕ) → o ≡ slice_get (able setting xs) i → IfSome o (λ h. is_able setting xs h ≡ true)
nth_able setting xs i None is = tt
nth_able setting xs i (Some h) is = (among setting xs i h (sym is)).passes

is_within : (xs : List ℕ) (i : ℕ) → i < length xs → None ≡ slice_get xs i → ⊥
is_within [] i below none = absurd (omega arith)
is_within (x ∷ xs) zero below none = cc
is_within (x ∷ xs) (suc i) below none = is_within xs i (omega arith) none

pub nth_none : (setting : Setting) (xs : List Entry) (i : ℕ) (o : Option ℕ) → o ≡ slice_get (able setting xs) i → IfNone o (length (able setting xs) ≤ i)
nth_none setting xs i None is =
    elim (cases_lt i (length (able setting xs))) [
      | inl lt ↦ absurd (is_within (able setting xs) i lt is)
      | inr ge ↦ ge
    ]
nth_none setting xs i (Some h) is = tt
