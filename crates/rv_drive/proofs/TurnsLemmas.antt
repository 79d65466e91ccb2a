-- Turns in a row, one more.
use Rattle.std.proofs.Common.{◌≡◌, ℕ, suc, ◌+◌, ◌-◌, ◌^◌, ◌<◌, ◌≤◌, false, true, List, [], ◌∷◌, ◌++◌, length, Some, None, refl, sym, ap, subst, ◌∙◌, arith, length-append, get_or}
use Rattle.std.specs.Prelude.{◌%◌, ◌==◌, filter, is_some, not, set, slice_get, vec_capacity}
use Rattle.std.proofs.lemmas.List.{append_assoc, append-nil}
use Rattle.std.proofs.lemmas.Option.{slice_get_read}
use Rattle.std.proofs.Math.Nat.{mod-lt}
use Rattle.rv_drive.specs.Able.{able, due, is_able}
use Rattle.rv_drive.specs.Drawn.{picked_hart}
use Rattle.rv_drive.specs.Turns.{ArePickedTurns, IsPickedTurn, TakesTurns}
use Rattle.rv_drive.specs.declared.ahead.Ahead.{Ahead}
use Rattle.rv_drive.specs.internal.Kept.{AddsTurn, IsAhead, IsInRow, IsOwed, IsTurnOf, IsUnstepped, StaysAhead}
use Rattle.rv_drive.specs.DriverLaws.{PausesGoOn}
use Rattle.rv_collide.specs.ListLaws.{OthersStayOpen}
use Rattle.rv_drive.proofs.KeptLemmas.{is_ready}
use Rattle.rv_drive.proofs.NotingLemmas.{held_ahead}
use Rattle.rv_drive.proofs.AheadLemmas.{driver_step, none_due, nth_able, nth_hart}
use Rattle.rv_collide.specs.Answers.{Adds, StepsOn, Turns}
use Rattle.rv_collide.specs.Forced.{Setting, Turn, least_free}
use Rattle.rv_collide.specs.Next.{runs_at}
use Rattle.rv_collide.specs.Pause.{opening_of}
use Rattle.rv_hart.specs.declared.machine.TheConstants.{MOST_HARTS}
use Rattle.rv_collide.specs.Stored.{Stored, added, setting_of}
use Rattle.rv_collide.specs.declared.collider.Turned.{Turned}
use Rattle.rv_collide.specs.declared.collider.Turned.TheVariants as turned
use Rattle.rv_collide.specs.declared.entry.Entry.{Entry}
use Rattle.rv_collide.specs.declared.entry.Entry.TheVariants.{Stepped, Paused}
use Rattle.rv_hart.specs.StepLaws.{OtherHartsStay}
use Rattle.rv_sample.specs.Generator.{Given, word_at}

plus_zero : (n : ℕ) → n + 0 ≡ n
plus_zero n = omega arith

shift : (n k : ℕ) → n + suc k ≡ n + 1 + k
shift n k = omega arith

one_turn_more : (setting : Setting) (word_at : ℕ → ℕ) (index : ℕ) (entries turns : List Entry) (turn : Entry) → ArePickedTurns setting word_at index entries turns → IsPickedTurn setting (entries ++ turns) (word_at (index + length turns)) turn → ArePickedTurns setting word_at index entries (turns ++ turn ∷ [])
one_turn_more setting word_at index entries [] turn are one =
    let here = subst (λ (xs : List Entry). IsPickedTurn setting xs (word_at (index + 0)) turn) (append-nil entries) one in
    (subst (λ (n : ℕ). IsPickedTurn setting entries (word_at n) turn) (plus_zero index) here, tt)
one_turn_more setting word_at index entries (first ∷ turns) turn are one =
    let here = subst (λ (xs : List Entry). IsPickedTurn setting xs (word_at (index + suc (length turns))) turn) (sym (append_assoc entries (first ∷ []) turns)) one in
    let there = subst (λ (n : ℕ). IsPickedTurn setting ((entries ++ first ∷ []) ++ turns) (word_at n) turn) (shift index (length turns)) here in
    (are.0, one_turn_more setting word_at (index + 1) (entries ++ first ∷ []) turns turn are.1 there)

pub none_yet : (core : Stored) (word_at : ℕ → ℕ) (first next : ℕ) → next ≡ first → TakesTurns core core word_at first next
none_yet core word_at first next is = record {
  turns = [];
  are_picked = tt;
  are_added = ap (λ (xs : List Entry). record core { entries = xs }) (sym (append-nil core.entries));
  next_is = is ∙ sym (plus_zero first);
}

-- the turns so far and one more
pub and_one : (old mid new : Stored) (word_at : ℕ → ℕ) (first next after hart : ℕ) (turn : Entry) → TakesTurns old mid word_at first next → due (setting_of mid) mid.entries ≡ None → picked_hart (setting_of mid) mid.entries (word_at next) ≡ Some hart → Adds mid new (Turn hart) turn → after ≡ next + 1 → TakesTurns old new word_at first after
and_one old mid new word_at first next after hart turn so_far undue picked adds counts =
    let at_mid : IsPickedTurn (setting_of mid) mid.entries (word_at next) turn = record { undue = undue; hart = hart; picked = picked; turns = adds.is_forced } in
    let at_old = subst (λ (c : Stored). IsPickedTurn (setting_of c) c.entries (word_at next) turn) so_far.are_added at_mid in
    let by_index = subst (λ (n : ℕ). IsPickedTurn (setting_of old) (old.entries ++ so_far.turns) (word_at n) turn) so_far.next_is at_old in
    let many = length-append so_far.turns (turn ∷ []) in
    let next_is = so_far.next_is in
    record {
      turns = so_far.turns ++ turn ∷ [];
      are_picked = one_turn_more (setting_of old) word_at first old.entries so_far.turns turn so_far.are_picked by_index;
      are_added = adds.is_added ∙ ap (λ (c : Stored). added c turn) so_far.are_added ∙ ap (λ (xs : List Entry). record old { entries = xs }) (append_assoc old.entries so_far.turns (turn ∷ []));
      next_is = omega (arith, many, next_is, counts);
    }

-- the same where the turn is told by its answer
pub and_turned : (old mid new : Stored) (word_at : ℕ → ℕ) (first next after hart : ℕ) (t : Turned) → TakesTurns old mid word_at first next → due (setting_of mid) mid.entries ≡ None → picked_hart (setting_of mid) mid.entries (word_at next) ≡ Some hart → Turns mid new hart t → after ≡ next + 1 → TakesTurns old new word_at first after
and_turned old mid new word_at first next after hart (turned.Stepped event) so_far undue picked turns counts =
    and_one old mid new word_at first next after hart (Stepped hart) so_far undue picked turns.0 counts
and_turned old mid new word_at first next after hart (turned.Paused slot) so_far undue picked turns counts =
    and_one old mid new word_at first next after hart (Paused hart slot) so_far undue picked turns counts

-- ---- the hart that a word picks

pub picked_within : (setting : Setting) (xs : List Entry) (word hart : ℕ) → picked_hart setting xs word ≡ Some hart → hart < setting.plan.harts
unfolding picked_hart
picked_within setting xs word hart picked = nth_hart setting xs (word % length (able setting xs)) (Some hart) (sym picked)

pub picked_able : (setting : Setting) (xs : List Entry) (word hart : ℕ) → picked_hart setting xs word ≡ Some hart → is_able setting xs hart ≡ true
unfolding picked_hart
picked_able setting xs word hart picked = nth_able setting xs (word % length (able setting xs)) (Some hart) (sym picked)

some_count : (count n m : ℕ) → count ≡ n → m ≡ n → 0 < m → 0 < count
some_count count n m counts long some = omega arith

below_row : (r count n m : ℕ) → r < count → count ≡ n → m ≡ n → r < m
below_row r count n m below counts long = omega arith

pub is_picked : (setting : Setting) (xs : List Entry) (row : List ℕ) (word drawn count hart : ℕ) → 0 < length row → word ≡ drawn → row ≡ able setting xs → count ≡ length (able setting xs) → hart ≡ get_or row (word % count) hart → picked_hart setting xs drawn ≡ Some hart
unfolding picked_hart
is_picked setting xs row word drawn count hart some is are counts read =
    let long : length row ≡ length (able setting xs) = ap length are in
    let below = mod-lt word (some_count count (length (able setting xs)) (length row) counts long some) in
    ap (λ (w : ℕ). slice_get (able setting xs) (w % length (able setting xs))) (sym is)
    ∙ ap (λ (n : ℕ). slice_get (able setting xs) (word % n)) (sym counts)
    ∙ ap (λ (ys : List ℕ). slice_get ys (word % count)) (sym are)
    ∙ slice_get_read row (length row) (word % count) hart refl (below_row (word % count) count (length (able setting xs)) (length row) below counts long) read

-- where the same harts stay able a word picks the same
pub picks_the_same : (d e : Ahead) (word next : ℕ) → IsAhead d → IsAhead e → e.able.items ≡ d.able.items → picked_hart (setting_of d.collider) d.collider.entries word ≡ Some next → picked_hart (setting_of e.collider) e.collider.entries word ≡ Some next
unfolding picked_hart
picks_the_same d e word next before after same picked =
    ap (λ (ys : List ℕ). slice_get ys (word % length ys)) (sym after.able_are ∙ same ∙ before.able_are) ∙ picked

-- ---- a common step

pub stays_ahead : PausesGoOn → OtherHartsStay → (d : Ahead) (core : Stored) (h : ℕ) → IsAhead d → is_able (setting_of d.collider) d.collider.entries h ≡ true → StepsOn d.collider core h → d.made + 1 < d.collider.plan.steps → StaysAhead d (record d { collider = core; made = d.made + 1 }) h
stays_ahead open_law law d core h ahead is on left =
    let is_added = on.turns.0.is_added in
    let runs = subst (λ (c : Stored). runs_at (setting_of c).start c.entries (length c.entries) h ≡ true) is_added on.runs in
    let after = driver_step open_law law d h on.event ahead is on.turns.1 runs left in
    record {
      ahead = subst (λ (c : Stored). IsAhead (record d { collider = c; made = d.made + 1 })) (sym is_added) after;
      adds = on.turns.0;
      one_more = refl;
      same_end = refl;
      same_able = refl;
    }

-- ---- a row of turns

none_undue : (d : Ahead) → IsAhead d → d.made < d.earliest → 0 < length d.able.items → due (setting_of d.collider) d.collider.entries ≡ None
none_undue d a early some =
    sym (none_due (setting_of d.collider) d.collider.entries d.made d.made_at d.able.items d.earliest a.kept a.able_are a.lasts early some)

pub row_begins : (d : Ahead) (before after : Given) (hart left : ℕ) → IsAhead d → 0 < length d.able.items → due (setting_of d.collider) d.collider.entries ≡ None → picked_hart (setting_of d.collider) d.collider.entries (word_at before.seed before.stream before.taken) ≡ Some hart → after ≡ record before { taken = before.taken + 1 } → (0 < left → d.made + left < d.earliest) → (0 < left → d.made + left < d.collider.plan.steps) → left < 2 ^ 32 → IsInRow d.collider before d after hart left
row_begins d before after hart left ahead some undue picked words pauses steps few =
    let taken : after.taken ≡ before.taken + 1 = ap (λ (w : Given). w.taken) words in
    let last : before.taken ≡ after.taken - 1 = omega arith in
    record {
      ahead = ahead;
      some = some;
      undue = undue;
      so_far = none_yet d.collider (word_at before.seed before.stream) before.taken (after.taken - 1) (sym last);
      picked = subst (λ (n : ℕ). picked_hart (setting_of d.collider) d.collider.entries (word_at before.seed before.stream n) ≡ Some hart) last picked;
      pauses = pauses;
      steps = steps;
      words_are = words ∙ ap (λ (n : ℕ). record before { taken = n }) (sym taken);
      later = omega arith;
      few = omega arith;
    }

-- the words of one generator
same_words : (before words : Given) (n : ℕ) → words ≡ record before { taken = words.taken } → word_at words.seed words.stream n ≡ word_at before.seed before.stream n
same_words before words n is = ap (λ (w : Given). word_at w.seed w.stream n) is

pub row_goes_on : (old : Stored) (before words after : Given) (d e : Ahead) (hart next left : ℕ) → IsInRow old before d words hart left → 0 < left → StaysAhead d e hart → picked_hart (setting_of e.collider) e.collider.entries (word_at words.seed words.stream words.taken) ≡ Some next → after ≡ record words { taken = words.taken + 1 } → IsInRow old before e after next (left - 1)
row_goes_on old before words after d e hart next left row more stays picked then =
    let taken : after.taken ≡ words.taken + 1 = ap (λ (w : Given). w.taken) then in
    let last : words.taken ≡ after.taken - 1 = omega arith in
    let later = row.later in
    let few = row.few in
    let long : length e.able.items ≡ length d.able.items = ap length stays.same_able in
    let some : 0 < length e.able.items = (let was = row.some in omega (arith, long, was)) in
    let made = stays.one_more in
    let end = stays.same_end in
    let pauses : e.made + (left - 1) < e.earliest = (let was = row.pauses (omega arith) in omega (arith, was, made, end)) in
    let plan : e.collider.plan.steps ≡ d.collider.plan.steps = ap (λ (c : Stored). c.plan.steps) stays.adds.is_added in
    let steps : e.made + (left - 1) < e.collider.plan.steps = (let was = row.steps (omega arith) in omega (arith, was, made, plan)) in
    record {
      ahead = stays.ahead;
      some = some;
      undue = none_undue e stays.ahead (omega arith) some;
      so_far = and_one old d.collider e.collider (word_at before.seed before.stream) before.taken (words.taken - 1) (after.taken - 1) hart (Stepped hart) row.so_far row.undue row.picked stays.adds (omega arith);
      picked = subst (λ (n : ℕ). picked_hart (setting_of e.collider) e.collider.entries (word_at before.seed before.stream n) ≡ Some next) last
          (subst (λ (w : ℕ). picked_hart (setting_of e.collider) e.collider.entries w ≡ Some next) (same_words before words words.taken row.words_are) picked);
      pauses = λ _. pauses;
      steps = λ _. steps;
      words_are = then ∙ ap (λ (w : Given). record w { taken = words.taken + 1 }) row.words_are ∙ ap (λ (n : ℕ). record before { taken = n }) (sym taken);
      later = omega arith;
      few = omega arith;
    }

pub row_within : (old : Stored) (before words : Given) (d : Ahead) (hart left : ℕ) → IsInRow old before d words hart left → hart < d.collider.plan.harts
row_within old before words d hart left row = picked_within (setting_of d.collider) d.collider.entries _ hart row.picked

pub row_able : (old : Stored) (before words : Given) (d : Ahead) (hart left : ℕ) → IsInRow old before d words hart left → is_able (setting_of d.collider) d.collider.entries hart ≡ true
row_able old before words d hart left row = picked_able (setting_of d.collider) d.collider.entries _ hart row.picked

-- the same where nothing has changed since

still : (old : Stored) (before words : Given) (d e : Ahead) (hart left : ℕ) → IsInRow old before d words hart left → e ≡ d → IsInRow old before e words hart left
still old before words d e hart left row same = subst (λ (x : Ahead). IsInRow old before x words hart left) (sym same) row

pub row_within_same : (old : Stored) (before words : Given) (d e : Ahead) (hart left : ℕ) → IsInRow old before d words hart left → e ≡ d → hart < e.collider.plan.harts
row_within_same old before words d e hart left row same = row_within old before words e hart left (still old before words d e hart left row same)

pub row_able_same : (old : Stored) (before words : Given) (d e : Ahead) (hart left : ℕ) → IsInRow old before d words hart left → e ≡ d → is_able (setting_of e.collider) e.collider.entries hart ≡ true
row_able_same old before words d e hart left row same = row_able old before words e hart left (still old before words d e hart left row same)

pub row_ends_same : (old new : Stored) (before words : Given) (d e : Ahead) (hart left : ℕ) (t : Turned) → IsInRow old before d words hart left → e ≡ d → Turns e.collider new hart t → TakesTurns old new (word_at before.seed before.stream) before.taken words.taken
row_ends_same old new before words d e hart left t row same turns =
    let now = still old before words d e hart left row same in
    let later = now.later in
    and_turned old e.collider new (word_at before.seed before.stream) before.taken (words.taken - 1) words.taken hart t now.so_far now.undue now.picked turns (omega arith)

pub row_turned : (old new : Stored) (before words : Given) (d : Ahead) (hart left : ℕ) → IsInRow old before d words hart left → IsTurnOf d.collider new hart → TakesTurns old new (word_at before.seed before.stream) before.taken words.taken
row_turned old new before words d hart left row turns =
    let later = row.later in
    and_one old d.collider new (word_at before.seed before.stream) before.taken (words.taken - 1) words.taken hart turns.entry row.so_far row.undue row.picked turns.adds (omega arith)

-- a turn of a row is owed
pub row_owed : (old : Stored) (before words : Given) (d e : Ahead) (hart left : ℕ) → IsInRow old before d words hart left → IsUnstepped d e hart → IsOwed e hart
row_owed old before words d e hart left row was =
    record {
      before = d;
      ahead = row.ahead;
      within = row_within old before words d hart left row;
      is_able = row_able old before words d hart left row;
      unstepped = was;
    }

-- ---- the end of a row by no step

-- where the hart is not paused nothing has changed
pub unstepped_same : (d e : Ahead) (h : ℕ) → IsUnstepped d e h → is_some (opening_of e.collider.entries h) ≡ false → e ≡ d
unstepped_same d e h was closed = was.same_rest ∙ ap (λ (c : Stored). record d { collider = c }) (was.may_pause.still closed)

differ : true ≡ false → ⊥
differ h = cc

-- nor where nothing was tried, since an able hart is not paused
pub untried : (d : Ahead) (h : ℕ) → is_able (setting_of d.collider) d.collider.entries h ≡ true → IsUnstepped d d h
untried d h is =
    let free = (is_ready (setting_of d.collider) d.collider.entries h is).free in
    record {
      same_rest = refl;
      may_pause = record { paused = λ held. absurd (differ (sym held ∙ free)); still = λ _. refl };
    }

-- what it is to note a pause
pub record Notes (e f : Ahead) (h : ℕ) : Type 0 where
  pub made_at : f.made_at ≡ set e.made_at h e.made
  pub able_are : f.able.items ≡ filter (λ k. not (k == h)) e.able.items
  pub room : vec_capacity f.able ≡ vec_capacity e.able
  pub sooner : f.earliest ≤ e.earliest
  pub end : f.earliest ≤ e.made + e.collider.plan.pause
  pub core : f.collider ≡ e.collider
  pub made : f.made ≡ e.made

pub unstepped_harts : (d e : Ahead) (h : ℕ) → IsAhead d → IsUnstepped d e h → length e.made_at ≡ MOST_HARTS
unstepped_harts d e h ahead was = ap (λ (x : Ahead). length x.made_at) was.same_rest ∙ ahead.kept.harts

-- where it is, its pause is noted
pub paused_ahead : PausesGoOn → OthersStayOpen → (d e f : Ahead) (h : ℕ) → h < 16 → IsAhead d → is_able (setting_of d.collider) d.collider.entries h ≡ true → IsUnstepped d e h → is_some (opening_of e.collider.entries h) ≡ true → Notes e f h → IsAhead f
paused_ahead law stay d e f h below ahead is was held notes =
    let adds = was.may_pause.paused held in
    let slot = least_free d.collider.plan.slots d.collider.entries in
    let noted : Notes (record d { collider = e.collider }) f h = subst (λ (x : Ahead). Notes x f h) was.same_rest notes in
    let end : f.earliest ≤ d.made + d.collider.plan.pause = subst (λ (s : Stored). f.earliest ≤ d.made + s.plan.pause) adds.is_added noted.end in
    held_ahead law stay d f h slot below (is_ready (setting_of d.collider) d.collider.entries h is).free ahead
    (noted.core ∙ adds.is_added) noted.made noted.made_at noted.able_are noted.room noted.sooner end

pub turn_of : (old new : Stored) (h : ℕ) (t : Turned) → Turns old new h t → IsTurnOf old new h
turn_of old new h (turned.Stepped event) turns = record { entry = Stepped h; adds = turns.0 }
turn_of old new h (turned.Paused slot) turns = record { entry = Paused h slot; adds = turns }

-- the owed turn, told of what was before it
pub owed_full : (e new : Ahead) (h : ℕ) → is_some (opening_of e.collider.entries h) ≡ false → IsTurnOf e.collider new.collider h → AddsTurn e new h
owed_full e new h closed turns = λ before was.
    let same = unstepped_same before e h was closed in
    subst (λ (x : Ahead). IsTurnOf x.collider new.collider h) same turns

pub step_turn : (d e : Ahead) (h : ℕ) → StaysAhead d e h → IsTurnOf d.collider e.collider h
step_turn d e h stays = record { entry = Stepped h; adds = stays.adds }

pub owed_pause : (e f : Ahead) (h : ℕ) → is_some (opening_of e.collider.entries h) ≡ true → f.collider ≡ e.collider → AddsTurn e f h
owed_pause e f h held same = λ before was.
    let adds = was.may_pause.paused held in
    record {
      entry = Paused h (least_free before.collider.plan.slots before.collider.entries);
      adds = record { is_forced = adds.is_forced; is_added = same ∙ adds.is_added };
    }

-- its core has the same plan
pub owed_plan : (e : Ahead) (h : ℕ) (owed : IsOwed e h) → owed.before.collider.plan ≡ e.collider.plan
owed_plan e h owed =
    elim (is_some (opening_of e.collider.entries h)) as (λ b. is_some (opening_of e.collider.entries h) ≡ b → owed.before.collider.plan ≡ e.collider.plan) [
      | true ↦ λ held. sym (ap (λ (c : Stored). c.plan) (owed.unstepped.may_pause.paused held).is_added)
      | false ↦ λ closed. sym (ap (λ (c : Stored). c.plan) (owed.unstepped.may_pause.still closed))
    ] refl
