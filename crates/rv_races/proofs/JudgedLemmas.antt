-- What each entry of a run accessed, and the last stores of its pauses.
use Rattle.std.proofs.Common.{◌≡◌, ℕ, zero, suc, ◌+◌, ◌-◌, ◌<◌, ◌≤◌, Bool, true, false, List, [], ◌∷◌, ◌++◌, Option, Some, None, get_or, map, take, refl, ap, sym, ◌∙◌, inl, inr, arith}
use Rattle.std.specs.Prelude.{◌||◌, filter_map, option_and_then, option_map, length, slice_get, unwrap_or}
use Rattle.std.specs.List.{fold, list_any, range_with_len}
use Rattle.std.specs.Option.{option_map_or, option_to_list}
use Rattle.std.proofs.lemmas.Bool.{cases_lt}
use Rattle.std.proofs.lemmas.List.{take_more}
use Rattle.std.proofs.lemmas.List.Elements.{filter_map-append}
use Rattle.std.proofs.lemmas.List.FromFn.{map-range_with_len_more}
use Rattle.std.proofs.lemmas.List.Sums.{fold-append}
use Rattle.std.proofs.lemmas.Option.{slice_get-get_or, slice_get-map}
use Rattle.rv_break.specs.declared.claim.Seen.{Seen}
use Rattle.rv_collide.specs.Answers.{pause_of}
use Rattle.rv_collide.specs.Entries.{stepped_at, stepped_hart, steps}
use Rattle.rv_collide.specs.First.{seen_at}
use Rattle.rv_collide.specs.Made.{made}
use Rattle.rv_collide.specs.Next.{next}
use Rattle.rv_collide.specs.Pause.{within}
use Rattle.rv_collide.specs.StateAt.{state_at}
use Rattle.rv_collide.specs.declared.ending.Ending.{Ending}
use Rattle.rv_collide.specs.declared.ending.Verdict.{Verdict}
use Rattle.rv_collide.specs.declared.ending.Verdict.TheVariants.{Hit, Changed, Quiet}
use Rattle.rv_collide.specs.declared.entry.Entry.{Entry}
use Rattle.rv_collide.specs.declared.entry.Entry.TheVariants.{Stepped, Paused, Resumed, Armed, Disarmed}
use Rattle.rv_elf.specs.Contents.{Contents}
use Rattle.rv_hart.specs.NextAccess.{accessed, next_access}
use Rattle.rv_hart.specs.Run.{run}
use Rattle.rv_hart.specs.State.{State}
use Rattle.rv_hart.specs.Step.{step_of}
use Rattle.rv_hart.specs.declared.access.Event.{Event}
use Rattle.rv_races.specs.Judged.{is_changed, is_changed_by, judged, judged_by, last_store, run_behind, seen_within, store_or}
use Rattle.rv_races.specs.Run.{Run}
use Rattle.rv_races.specs.declared.judged.Judged.{Judged}
use Rattle.rv_races.specs.internal.LastStores.{judged_with, last_among, made_at, made_in, seen_by}

-- ---- the state at the next place

run_append : (s : State) (hs ks : List ℕ) → run s (hs ++ ks) ≡ option_and_then (λ t. run t ks) (run s hs)
run_append s [] ks = refl
run_append s (h ∷ hs) ks =
    elim (step_of s h) as (λ (o : Option (Event × State)). option_and_then (λ step. run step.1 (hs ++ ks)) o ≡ option_and_then (λ t. run t ks) (option_and_then (λ step. run step.1 hs) o)) [
      | None ↦ refl
      | Some step ↦ run_append step.1 hs ks
    ]

steps_of_one : (entry : Entry) → steps (entry ∷ []) ≡ option_to_list (stepped_hart entry)
unfolding steps
steps_of_one (Stepped hart) = refl
steps_of_one (Paused hart slot) = refl
steps_of_one (Resumed hart) = refl
steps_of_one (Armed address) = refl
steps_of_one (Disarmed address) = refl

steps_more : (entries : List Entry) (entry : Entry) → steps (entries ++ entry ∷ []) ≡ steps entries ++ option_to_list (stepped_hart entry)
unfolding steps
steps_more entries entry = filter_map-append stepped_hart entries (entry ∷ []) ∙ ap (λ hs. steps entries ++ hs) (steps_of_one entry)

pub state_next : (start s t : State) (entries : List Entry) (place : ℕ) (other : Entry) → place < length entries → state_at start entries place ≡ Some s
    → run s (option_to_list (stepped_hart (get_or entries place other))) ≡ Some t → state_at start entries (place + 1) ≡ Some t
unfolding state_at
state_next start s t entries place other below here on =
    let entry : Entry = get_or entries place other in
    ap (λ es. run start (steps es)) (take_more entries place other below)
    ∙ ap (run start) (steps_more (take place entries) entry)
    ∙ run_append start (steps (take place entries)) (option_to_list (stepped_hart entry))
    ∙ ap (option_and_then (λ u. run u (option_to_list (stepped_hart entry)))) here
    ∙ on

-- ---- the step of an entry

pub no_step : (s : State) (hart : Option ℕ) → None ≡ hart → run s (option_to_list hart) ≡ Some s
no_step s hart none = rw (← none) refl

pub one_step : (s t : State) (event : Event) (hart : Option ℕ) (h : ℕ) → Some h ≡ hart → step_of s h ≡ Some (event, t) → run s (option_to_list hart) ≡ Some t
one_step s t event hart h is step = rw (← is, step) refl

pub none_seen : (s : State) (place : ℕ) (hart : Option ℕ) → None ≡ hart → None ≡ seen_by s place hart
unfolding seen_by
none_seen s place hart none = rw (← none) refl

pub one_seen : (s t : State) (event : Event) (place : ℕ) (hart : Option ℕ) (h : ℕ) (seen : Option Seen) → Some h ≡ hart → step_of s h ≡ Some (event, t)
    → seen ≡ option_map (λ access. record { place = place; hart = h; access = access }) (accessed event) → seen ≡ seen_by s place hart
unfolding seen_by next_access
one_seen s t event place hart h seen is step found = rw (← is, step) found

-- ---- the table

seen_case : (start s : State) (entries : List Entry) (place : ℕ) (e : Entry) → slice_get entries place ≡ Some e → state_at start entries place ≡ Some s → seen_by s place (stepped_hart e) ≡ seen_at start entries place
unfolding seen_by seen_at made next stepped_at
seen_case start s entries place (Stepped hart) there here = rw (there, here) refl
seen_case start s entries place (Paused hart slot) there here = rw there refl
seen_case start s entries place (Resumed hart) there here = rw there refl
seen_case start s entries place (Armed address) there here = rw there refl
seen_case start s entries place (Disarmed address) there here = rw there refl

-- what one entry more accessed
pub made_more : (start s : State) (entries : List Entry) (place : ℕ) (other : Entry) (before after : List (Option Seen)) (seen : Option Seen) → place < length entries → state_at start entries place ≡ Some s
    → before ≡ map (seen_at start entries) (range_with_len 0 place) → seen ≡ seen_by s place (stepped_hart (get_or entries place other)) → after ≡ before ++ seen ∷ []
    → after ≡ map (seen_at start entries) (range_with_len 0 (place + 1))
made_more start s entries place other before after seen below here so_far is pushed =
    let there = slice_get-get_or entries place other below in
    pushed ∙ ap (λ (xs : List (Option Seen)). xs ++ seen ∷ []) so_far
    ∙ ap (λ (o : Option Seen). map (seen_at start entries) (range_with_len 0 place) ++ o ∷ []) (is ∙ seen_case start s entries place (get_or entries place other) there here)
    ∙ sym (map-range_with_len_more (seen_at start entries) 0 place place (omega arith))

-- ---- the last store, one place more

mapped_same : (xs : List ℕ) → map (λ (k : ℕ). k) xs ≡ xs
mapped_same [] = refl
mapped_same (x ∷ xs) = ap (λ (ys : List ℕ). x ∷ ys) (mapped_same xs)

range_more : (a n j : ℕ) → a + n ≡ j → range_with_len a (n + 1) ≡ range_with_len a n ++ j ∷ []
range_more a n j is =
    sym (mapped_same (range_with_len a (n + 1))) ∙ map-range_with_len_more (λ (k : ℕ). k) a n j is
    ∙ ap (λ (xs : List ℕ). xs ++ j ∷ []) (mapped_same (range_with_len a n))

range_to : (first place : ℕ) → first ≤ place → range_with_len first (place + 1 - first) ≡ range_with_len first (place - first) ++ place ∷ []
range_to first place le =
    let count : place + 1 - first ≡ (place - first) + 1 = omega arith in
    let last : first + (place - first) ≡ place = omega arith in
    ap (range_with_len first) count ∙ range_more first (place - first) place last

found_one : {X Y : Type 0} → (f : Y → X → Y) (y : Y) (h : ℕ → Option X) (place : ℕ) (o : Option X) → h place ≡ o → fold f y (filter_map h (place ∷ [])) ≡ option_map_or (f y) (h place) y
found_one f y h place None is = rw is refl
found_one f y h place (Some x) is = rw is refl

fold_found_to : {X Y : Type 0} → (f : Y → X → Y) (z : Y) (h : ℕ → Option X) (first place : ℕ) → first ≤ place → fold f z (filter_map h (range_with_len first (place + 1 - first))) ≡ option_map_or (f (fold f z (filter_map h (range_with_len first (place - first))))) (h place) (fold f z (filter_map h (range_with_len first (place - first))))
fold_found_to f z h first place le =
    ap (λ (xs : List ℕ). fold f z (filter_map h xs)) (range_to first place le)
    ∙ ap (fold f z) (filter_map-append h (range_with_len first (place - first)) (place ∷ []))
    ∙ fold-append f z (filter_map h (range_with_len first (place - first))) (filter_map h (place ∷ []))
    ∙ found_one f (fold f z (filter_map h (range_with_len first (place - first)))) h place (h place) refl

pub last_more : (table : List (Option Seen)) (told : Ending) (first place : ℕ) (old new' : Option Seen) → first ≤ place
    → old ≡ fold (store_or told.access) None (filter_map (made_at table) (range_with_len first (place - first)))
    → new' ≡ option_map_or (store_or told.access old) (made_at table place) old
    → new' ≡ fold (store_or told.access) None (filter_map (made_at table) (range_with_len first (place + 1 - first)))
last_more table told first place old new' le before passed =
    (rw before at passed) ∙ sym (fold_found_to (store_or told.access) None (made_at table) first place le)

-- ---- the table says what each entry accessed

none_after : (entries : List Entry) (place : ℕ) → length entries ≤ place → slice_get entries place ≡ None
none_after [] place le = refl
none_after (e ∷ es) zero le = absurd (omega (arith, le))
none_after (e ∷ es) (suc place) le = none_after es place (omega (arith, le))

get_range : (a n i : ℕ) → i < n → slice_get (range_with_len a n) i ≡ Some (a + i)
get_range a zero i below = absurd (omega (arith, below))
get_range a (suc n) zero below = let same : a ≡ a + 0 = omega arith in ap (λ (k : ℕ). Some k) same
get_range a (suc n) (suc i) below =
    let same : a + 1 + i ≡ a + suc i = omega arith in
    get_range (a + 1) n i (omega (arith, below)) ∙ ap (λ (k : ℕ). Some k) same

get_after : (a n i : ℕ) → n ≤ i → slice_get (range_with_len a n) i ≡ None
get_after a zero i le = refl
get_after a (suc n) zero le = absurd (omega (arith, le))
get_after a (suc n) (suc i) le = get_after (a + 1) n i (omega (arith, le))

seen_none : (start : State) (entries : List Entry) (place : ℕ) → slice_get entries place ≡ None → None ≡ seen_at start entries place
unfolding seen_at stepped_at
seen_none start entries place none = rw none refl

made_there : (start : State) (entries : List Entry) (place : ℕ) → made_at (made_in start entries) place ≡ seen_at start entries place
unfolding made_in
made_there start entries place =
    elim (cases_lt place (length entries)) [
      | inl below ↦
          (let mapped = slice_get-map (seen_at start entries) (range_with_len 0 (length entries)) place in
          let there = get_range 0 (length entries) place below in
          let same : 0 + place ≡ place = omega arith in
          rw (mapped, there, same) refl)
      | inr after ↦
          (let mapped = slice_get-map (seen_at start entries) (range_with_len 0 (length entries)) place in
          let beyond = get_after 0 (length entries) place (omega (arith, after)) in
          rw (mapped, beyond) (seen_none start entries place (none_after entries place (omega (arith, after)))))
    ]

one_found : {X : Type 0} (h : ℕ → Option X) (x : ℕ) (xs : List ℕ) (o : Option X) → h x ≡ o → filter_map h (x ∷ xs) ≡ option_to_list o ++ filter_map h xs
one_found h x xs None is = rw is refl
one_found h x xs (Some y) is = rw is refl

found_same : {X : Type 0} (h k : ℕ → Option X) → ((x : ℕ) → h x ≡ k x) → (xs : List ℕ) → filter_map h xs ≡ filter_map k xs
found_same h k same [] = refl
found_same h k same (x ∷ xs) =
    one_found h x xs (k x) (same x) ∙ ap (λ ys. option_to_list (k x) ++ ys) (found_same h k same xs) ∙ sym (one_found k x xs (k x) refl)

last_same : (run : Run) (told : Ending) → last_among (made_in run.start run.entries) told ≡ last_store run told
unfolding last_among last_store seen_within
last_same run told =
    ap (fold (store_or told.access) None) (found_same (made_at (made_in run.start run.entries)) (seen_at run.start run.entries) (made_there run.start run.entries) (within (pause_of told)))

judged_same : (run : Run) (told : Ending) → judged_with (made_in run.start run.entries) told ≡ judged run told
unfolding judged
judged_same run told =
    ap (λ (last : Option Seen). record { ending = told; verdict = judged_by last told.verdict }) (last_same run told)

pub all_judged : (run : Run) (told : List Ending) → map (judged_with (made_in run.start run.entries)) told ≡ map (judged run) told
all_judged run [] = refl
all_judged run (e ∷ es) = rw (judged_same run e) (ap (λ (js : List Judged). judged run e ∷ js) (all_judged run es))

-- ---- where no ending found its bytes changed

one_told : (table : List (Option Seen)) (run : Run) (e : Ending) (v : Verdict) → e.verdict ≡ v → is_changed_by v ≡ false → judged_with table e ≡ judged run e
unfolding judged
one_told table run e (Hit seen) is none = rw is refl
one_told table run e Quiet is none = rw is refl
one_told table run e Changed is none = (let no : true ≡ false = none in cc)

both_false : (a b : Bool) → (a || b) ≡ false → (a ≡ false) × (b ≡ false)
both_false false false is = (refl, refl)
both_false false true is = (let no : true ≡ false = is in cc)
both_false true b is = (let no : true ≡ false = is in cc)

pub all_told : (table : List (Option Seen)) (run : Run) (told : List Ending) → list_any is_changed told ≡ false → map (judged_with table) told ≡ map (judged run) told
all_told table run [] none = refl
all_told table run (e ∷ es) none =
    let both = both_false (is_changed e) (list_any is_changed es) none in
    rw (one_told table run e e.verdict refl both.0) (ap (λ (js : List Judged). judged run e ∷ js) (all_told table run es both.1))

-- ---- a run behind steps

-- the state behind one step more
pub stepped_more : (start s t : State) (hs : List ℕ) (i other : ℕ) → i < length hs → run start (take i hs) ≡ Some s → run s (get_or hs i other ∷ []) ≡ Some t → run start (take (i + 1) hs) ≡ Some t
stepped_more start s t hs i other below here on =
    ap (run start) (take_more hs i other below) ∙ run_append start (take i hs) (get_or hs i other ∷ [])
    ∙ ap (option_and_then (λ u. run u (get_or hs i other ∷ []))) here
    ∙ on

-- the table of what it accessed judges its endings
pub judged_behind : (image : Contents) (start s : State) (hs : List ℕ) (entries : List Entry) (table : List (Option Seen)) (told : List Ending) (all : List Judged) → run start hs ≡ Some s → table ≡ made_in s entries → all ≡ map (judged_with table) told
    → all ≡ map (judged (run_behind image start hs entries)) told
judged_behind image start s hs entries table told all there is made =
    made ∙ ap (λ (t : List (Option Seen)). map (judged_with t) told) is
    ∙ all_judged (record { image = image; start = s; entries = entries }) told
    ∙ ap (λ (o : Option State). map (judged (record { image = image; start = unwrap_or o start; entries = entries })) told) (sym there)
