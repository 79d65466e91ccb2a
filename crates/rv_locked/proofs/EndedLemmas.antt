-- A schedule of which each hart's part has ended has ended.
use Rattle.std.proofs.Common.{◌≡◌, ℕ, zero, suc, ◌+◌, ◌<◌, Bool, true, false, cond, List, [], ◌∷◌, ◌++◌, length, take, Option, Some, Ok, Err, Result, refl, sym, ap, subst, ◌∙◌, arith}
use Rattle.std.specs.Prelude.{◌==◌, filter, find, is_some, nat_lt, not, slice_get}
use Rattle.std.specs.List.{list_any, range_with_len}
use Rattle.std.proofs.lemmas.Bool.Decides.{nat_tests}
use Rattle.rv_drive.specs.Able.{HasEnded, IsLong, able, is_able}
use Rattle.rv_collide.specs.Answers.{IsOutput}
use Rattle.rv_collide.specs.Verdict.{endings}
use Rattle.rv_drive.specs.Draws.{IsArmedByDraws, is_resumed}
use Rattle.rv_collide.specs.Entries.{steps}
use Rattle.rv_collide.specs.Forced.{Setting, Turn, forced, turn_entry}
use Rattle.rv_collide.specs.Legal.{IsLegal}
use Rattle.rv_collide.specs.Next.{plain, runs_at}
use Rattle.rv_collide.specs.Pause.{Opening, opening_of, openings, openings_from, resumes}
use Rattle.rv_collide.specs.Plan.{Numbers}
use Rattle.rv_collide.specs.Stored.{Stored, setting_of, stored}
use Rattle.rv_collide.specs.declared.collider.Finished.{Finished}
use Rattle.rv_collide.specs.declared.entry.Entry.{Entry}
use Rattle.rv_collide.specs.declared.entry.Entry.TheVariants.{Stepped, Paused as PausedAt, Resumed, Armed, Disarmed}
use Rattle.rv_collide.specs.declared.refused.Refused.{Refused}
use Rattle.rv_collide.specs.declared.refused.Refused.TheVariants.{NoHart, NotRunning, Paused, StepsSpent}
use Rattle.rv_elf.specs.Contents.{Contents}
use Rattle.rv_memory.specs.Chain.{◌>>=◌, want}
use Rattle.rv_locked.specs.Own.{AreCopies, AreOwn, IsOwn}
use Rattle.rv_locked.specs.Threaded.{IsThreaded}
use Rattle.rv_drive.specs.Sampling.{sampling}
use Rattle.rv_locked.specs.Watched.{IsHistory, IsLeft, Watch}

-- ---- an open pause is a hart's of the plan

record IsPausedAt (xs : List Entry) (hart : ℕ) : Type 0 where
  place : ℕ
  slot : Option ℕ
  there : slice_get xs place ≡ Some (PausedAt hart slot)

later_on : (e : Entry) (xs : List Entry) (hart : ℕ) → IsPausedAt xs hart → IsPausedAt (e ∷ xs) hart
later_on e xs hart w = record { place = suc w.place; slot = w.slot; there = w.there }

same_head : (o p : Opening) (os ps : List Opening) → o ∷ os ≡ p ∷ ps → o ≡ p
same_head o p os ps h = cc

is_nothing : (o : Opening) (os : List Opening) → [] ≡ o ∷ os → ⊥
is_nothing o os h = cc

opened_by : (base : ℕ) (xs : List Entry) (o : Opening) (os : List Opening) → openings_from base xs ≡ o ∷ os → IsPausedAt xs o.hart
unfolding openings_from
opened_by base [] o os h = absurd (is_nothing o os h)
opened_by base (Stepped k ∷ xs) o os h = later_on (Stepped k) xs o.hart (opened_by (base + 1) xs o os h)
opened_by base (Resumed k ∷ xs) o os h = later_on (Resumed k) xs o.hart (opened_by (base + 1) xs o os h)
opened_by base (Armed a ∷ xs) o os h = later_on (Armed a) xs o.hart (opened_by (base + 1) xs o os h)
opened_by base (Disarmed a ∷ xs) o os h = later_on (Disarmed a) xs o.hart (opened_by (base + 1) xs o os h)
opened_by base (PausedAt k slot ∷ xs) o os h =
    elim (list_any (resumes k) xs) as (λ b. cond b [] (record { hart = k; slot = slot; place = base } ∷ []) ++ openings_from (base + 1) xs ≡ o ∷ os → IsPausedAt (PausedAt k slot ∷ xs) o.hart) [
      | true ↦ λ later. later_on (PausedAt k slot) xs o.hart (opened_by (base + 1) xs o os later)
      | false ↦ λ first. (let same = same_head (record { hart = k; slot = slot; place = base }) o (openings_from (base + 1) xs) os first in
          subst (λ (p : Opening). IsPausedAt (PausedAt k slot ∷ xs) p.hart) same (record { place = 0; slot = slot; there = refl }))
    ] h

err_not_ok : (fault : Refused) (e : Entry) → Err fault ≡ Ok e → ⊥
err_not_ok fault e h = cc

first_passes : (b : Bool) (rest : Result Entry Refused) (e : Entry) → (want b NoHart >>= λ _. rest) ≡ Ok e → b ≡ true
first_passes true rest e h = refl
first_passes false rest e h = absurd (err_not_ok NoHart e h)

lt_of : (a b : ℕ) → nat_lt a b ≡ true → a < b
lt_of a b h = grind (arith, nat_tests)

forced_below : (setting : Setting) (xs : List Entry) (hart : ℕ) (e : Entry) → forced setting xs (Turn hart) ≡ Ok e → hart < setting.plan.harts
unfolding forced
forced_below setting xs hart e h =
    lt_of hart setting.plan.harts (first_passes (nat_lt hart setting.plan.harts) (want (runs_at setting.start xs (length xs) hart) NotRunning
    >>= λ _. want (not (is_some (opening_of xs hart))) Paused
    >>= λ _. want (nat_lt (length (steps xs)) setting.plan.steps) StepsSpent
    >>= λ _. Ok (turn_entry setting xs hart (plain setting.start xs (length xs) hart))) e h)

-- ---- nothing is open, and no hart is able

eq_itself : (a : ℕ) → (a == a) ≡ true
eq_itself a = grind (arith, nat_tests)

found_first : (o : Opening) (os : List Opening) → is_some (find (λ (p : Opening). p.hart == o.hart) (o ∷ os)) ≡ true
found_first o os = ap (λ b. is_some (cond b (Some o) (find (λ (p : Opening). p.hart == o.hart) os))) (eq_itself o.hart)

both : (b : Bool) → b ≡ true → b ≡ false → ⊥
both b t f = (let differ : true ≡ false = sym t ∙ f in cc)

nothing_open : (setting : Setting) (xs : List Entry) (os : List Opening) → openings xs ≡ os → IsLegal setting xs → ((hart : ℕ) → hart < setting.plan.harts → is_some (opening_of xs hart) ≡ false) → os ≡ []
unfolding openings opening_of
nothing_open setting xs [] is legal closed = refl
nothing_open setting xs (o ∷ os) is legal closed =
    let paused = opened_by 0 xs o os is in
    let below = forced_below setting (take paused.place xs) o.hart (PausedAt o.hart paused.slot) (legal paused.place (PausedAt o.hart paused.slot) paused.there) in
    absurd (both (is_some (find (λ (p : Opening). p.hart == o.hart) (openings_from 0 xs))) (ap (λ ps. is_some (find (λ (p : Opening). p.hart == o.hart) ps)) is ∙ found_first o os) (closed o.hart below))

none_pass : (p : ℕ → Bool) (first count : ℕ) → ((k : ℕ) → k < first + count → p k ≡ false) → filter p (range_with_len first count) ≡ []
none_pass p first zero fails = refl
none_pass p first (suc n) fails =
    ap (λ b. cond b (first ∷ filter p (range_with_len (first + 1) n)) (filter p (range_with_len (first + 1) n))) (fails first (omega arith))
    ∙ none_pass p (first + 1) n (λ k below. fails k (omega arith))

some_list : (xs : List (List ℕ)) (k : ℕ) → k < length xs → (l : List ℕ) × (slice_get xs k ≡ Some l)
some_list [] k below = absurd (omega arith)
some_list (x ∷ xs) zero below = (x, refl)
some_list (x ∷ xs) (suc k) below = some_list xs k (omega arith)

own_of : (core : Stored) (lists : List (List ℕ)) (hart : ℕ) → AreOwn core lists → hart < length lists → (l : List ℕ) × IsOwn core hart l
own_of core lists hart own below = (let at = some_list lists hart below in (at.0, own hart at.0 at.1))

pub has_ended : (core : Stored) (lists : List (List ℕ)) → IsLegal (setting_of core) core.entries → AreOwn core lists → length lists ≡ core.plan.harts → HasEnded (setting_of core) core.entries
unfolding able
has_ended core lists legal own one_each = record {
  none_open = nothing_open (setting_of core) core.entries (openings core.entries) refl legal (λ hart below. (own_of core lists hart own (omega (arith, one_each))).1.not_open);
  none_able = none_pass (is_able (setting_of core) core.entries) 0 core.plan.harts (λ hart below. (own_of core lists hart own (omega (arith, one_each))).1.not_able);
}

-- ---- what a run leaves

record IsWhole (image : Contents) (plan : Numbers) (seed : ℕ) (entries : List Entry) : Type 0 where
  legal : IsLegal (setting_of (stored image plan [])) entries
  long : IsLong (setting_of (stored image plan [])) entries
  arms : IsArmedByDraws (setting_of (stored image plan [])) (sampling image seed) is_resumed entries
  ended : HasEnded (setting_of (stored image plan [])) entries

pub told_is : (w : Watch) (image : Contents) (plan : Numbers) (seed : ℕ) (lists : List (List ℕ)) (told : Finished) → IsHistory w → AreCopies w image plan seed → AreOwn w.core lists → IsLeft w.core told → length lists ≡ plan.harts → IsThreaded image plan seed told
told_is w image plan seed lists told history copies own left one_each =
    let first : IsWhole w.core.image w.core.plan w.seed w.core.entries = record {
      legal = history.core.legal;
      long = history.long;
      arms = history.arms;
      ended = has_ended w.core lists history.core.legal own (one_each ∙ ap (λ (n : Numbers). n.harts) (sym copies.plan_is));
    } in
    let by_image : IsWhole image w.core.plan w.seed w.core.entries = subst (λ (i : Contents). IsWhole i w.core.plan w.seed w.core.entries) copies.image_is first in
    let by_plan : IsWhole image plan w.seed w.core.entries = subst (λ (p : Numbers). IsWhole image p w.seed w.core.entries) copies.plan_is by_image in
    let by_seed : IsWhole image plan seed w.core.entries = subst (λ (k : ℕ). IsWhole image plan k w.core.entries) copies.seed_is by_plan in
    let whole : IsWhole image plan seed told.entries.items = subst (λ (es : List Entry). IsWhole image plan seed es) (sym left.entries_are) by_seed in
    record {
      plan_is = left.plan_is ∙ copies.plan_is;
      legal = whole.legal;
      long = whole.long;
      arms = whole.arms;
      ended = whole.ended;
      endings_are = left.endings_are
          ∙ ap (λ (i : Contents). endings (setting_of (stored i w.core.plan [])).start w.core.entries) copies.image_is
          ∙ ap (λ (p : Numbers). endings (setting_of (stored image p [])).start w.core.entries) copies.plan_is
          ∙ ap (endings (setting_of (stored image plan [])).start) (sym left.entries_are);
      output_is = subst (λ (es : List Entry). IsOutput (stored image plan es) told.output.items) (sym left.entries_are)
          (subst (λ (p : Numbers). IsOutput (stored image p w.core.entries) told.output.items) copies.plan_is
          (subst (λ (i : Contents). IsOutput (stored i w.core.plan w.core.entries) told.output.items) copies.image_is left.output_is));
    }
