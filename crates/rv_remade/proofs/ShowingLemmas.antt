-- The races that are shown in full, run by run and slot by slot.
use Rattle.std.proofs.Common.{◌≡◌, ◌≢◌, ℕ, zero, suc, ◌+◌, ◌<◌, ◌⊎◌, inl, inr, get_or, true, false, List, [], ◌∷◌, ◌++◌, length, Option, None, Some, replicate, refl, sym, ap, subst, ◌∙◌, arith, append-nil}
use Rattle.std.specs.Prelude.{All, IfSome, find, option_map, slice_get, slice_set}
use Rattle.std.specs.Option.{option_to_list}
use Rattle.std.proofs.lemmas.List.Elements.{All-push}
use Rattle.rv_collide.specs.Grammar.{schedule_text}
use Rattle.rv_collide.specs.Numbers.{numbers}
use Rattle.rv_collide.specs.declared.collider.Finished.{Finished}
use Rattle.rv_elf.specs.Contents.{Contents}
use Rattle.rv_explain.specs.Races.{Run, reports as reports_in}
use Rattle.rv_races.specs.declared.races.Report.{Report}
use Rattle.rv_search.specs.Hunt.{Hunt, IsSampledRun}
use Rattle.rv_remade.specs.Remade.{is_told_by, race_by, race_in}
use Rattle.rv_remade.specs.declared.shown.InFull.{InFull}
use Rattle.rv_remade.specs.declared.shown.ShownPart.{ShownPart}
use Rattle.rv_shown.specs.declared.shown.ShownRace.{ShownRace}
use Rattle.rv_tables.specs.declared.row.RaceRow.{RaceRow}
use Rattle.rv_remade.specs.Shown.{AreShown, IsPartOf, IsRaceShown, IsRunOf, IsShown, run_told}
use Rattle.rv_remade.specs.internal.Showing.{AreHeld, AreShownIn, AreSlots, Full, IsInSlot, IsOfRow, IsOfSchedule, IsPlaced, IsShownIn, IsShownPart, of_full}
use Rattle.rv_report.specs.declared.key.Key.{Key}
use Rattle.rv_plans.specs.Plans.{is_sampled}

abbrev Row : Type 0
Row = Key × RaceRow

same_some : {X : Type 0} (x y : X) → Some x ≡ Some y → x ≡ y
same_some x y h = cc

-- ---- the race of a row

pub race_found : (run : Run) (ranges : List (ℕ × ℕ)) (row : Row) (reports : List Report) (told : Report) → reports ≡ reports_in run ranges → find (is_told_by row) reports ≡ Some told → race_in run ranges row ≡ Some (race_by row told)
unfolding race_in
race_found run ranges row reports told are found =
    ap (λ (rs : List Report). option_map (race_by row) (find (is_told_by row) rs)) (sym are) ∙ ap (option_map (race_by row)) found

-- ---- the races of a part of a run

one_shown : (full : InFull) (number : ℕ) (run : Finished) (schedule : List ℕ) (one : ℕ × ShownRace) → full.symbols.now.image ≡ full.hunt.now.source.image → IsRunOf full.hunt.now number run → schedule ≡ schedule_text (numbers run.plan) run.entries.items
    → IsPlaced full number (run_told full.symbols.now.image run) run.plan.harts one → IsOfSchedule (of_full full) schedule one.0 one.1
one_shown full number run schedule one image is_run schedule_is placed =
    let of_row = placed.0 in
    let of_run = placed.1 in
    let names : of_row.row.1.run ≡ number = ap (λ (row : Row). row.1.run) (same_some of_row.row of_run.row (sym of_row.there ∙ of_run.there)) ∙ of_run.names in
    record {
      row = of_row.row;
      there = of_row.there;
      is_shown = record {
        run = run;
        is_run = subst (λ (n : ℕ). IsRunOf full.hunt.now n run) (sym names) is_run;
        is_shown = subst (λ (c : Contents). IsRaceShown full.hunt.now.ranges run.plan.harts of_row.row (run_told c run) one.1) image of_row.is_shown;
        saved = sym schedule_is;
      };
    }

pub shown_in : (full : InFull) (number : ℕ) (run : Finished) (shown : ShownPart) → full.symbols.now.image ≡ full.hunt.now.source.image → IsRunOf full.hunt.now number run → IsShownPart full number run shown → IsShownIn (of_full full) shown
shown_in full number run shown image is_run is = λ k d below.
    one_shown full number run shown.schedule.items (get_or shown.races.items k d) image is_run is.schedule_is (is.races_are k d below)

differ : true ≡ false → ⊥
differ h = cc

pub of_sampled : (hunt : Hunt) (number : ℕ) (run : Finished) → is_sampled hunt.given.mix number ≡ true → IsSampledRun hunt number run → IsRunOf hunt number run
of_sampled hunt number run sampled is = record { sampled = λ _. is; walked = λ other. absurd (differ (sym sampled ∙ other)) }

pub of_walked : (hunt : Hunt) (number : ℕ) (run : Finished) → is_sampled hunt.given.mix number ≡ false → IsPartOf hunt number run → IsRunOf hunt number run
of_walked hunt number run walked is = record { sampled = λ other. absurd (differ (sym other ∙ walked)); walked = λ _. is }

nothing_shown : (P : ShownPart → Type 0) → All P []
nothing_shown P = λ k d below. absurd (omega (arith, below))

pub one_part : (full : InFull) (number : ℕ) (run : Finished) (shown : ShownPart) → IsRunOf full.hunt.now number run → IsShownPart full number run shown → AreShownIn full (shown ∷ [])
one_part full number run shown is_run is = λ image.
    All-push (IsShownIn (of_full full)) [] shown (nothing_shown (IsShownIn (of_full full))) (shown_in full number run shown image is_run is)

pub no_part : (full : InFull) → AreShownIn full []
no_part full = λ image. nothing_shown (IsShownIn (of_full full))

pub more_parts : (full : InFull) (parts : List ShownPart) (part : ShownPart) → AreShownIn full parts → AreShownIn full (part ∷ []) → AreShownIn full (parts ++ part ∷ [])
more_parts full parts part before one = λ image.
    All-push (IsShownIn (of_full full)) parts part (before image) (one image 0 part (omega arith))

-- one race more, where the row has one
pub placed_more : (full : InFull) (number : ℕ) (now run : Run) (harts place short : ℕ) (row : Row) (found : Option ShownRace) (old new' : List (ℕ × ShownRace)) → now ≡ run → short ≡ place → slice_get full.rows.now place ≡ Some row → row.1.run ≡ number
    → IfSome found (λ one. IsOfRow full now harts place one) → new' ≡ old ++ option_to_list (option_map (λ one. (short, one)) found) → All (IsPlaced full number run harts) old → All (IsPlaced full number run harts) new'
placed_more full number now run harts place short row None old new' same is there names shown pushed before =
    subst (All (IsPlaced full number run harts)) (sym (pushed ∙ append-nil old)) before
placed_more full number now run harts place short row (Some one) old new' same is there names shown pushed before =
    subst (All (IsPlaced full number run harts)) (sym pushed) (All-push (IsPlaced full number run harts) old (short, one) before (
      subst (λ (r : Run). IsOfRow full r harts short one) same (subst (λ (n : ℕ). IsOfRow full now harts n one) (sym is) shown),
      record { row = row; there = ap (λ (n : ℕ). slice_get full.rows.now n) is ∙ there; names = names },
    ))

-- ---- the slots

none_there : {X : Type 0} (n place : ℕ) (one : X) → slice_get (replicate n None) place ≡ Some (Some one) → ⊥
none_there zero place one there = cc
none_there (suc n) zero one there = cc
none_there (suc n) (suc place) one there = none_there n place one there

pub none_yet : (full : Full) (Saves : ℕ → List ℕ → Type 0) (slots : List (Option ShownRace)) (n : ℕ) → slots ≡ replicate n None → AreSlots full Saves slots
none_yet full Saves slots n is = λ place one there. absurd (none_there n place one (ap (λ xs. slice_get xs place) (sym is) ∙ there))

-- what is read of a list in which one element is replaced: that one, or what was there at another place
read_set : {X : Type 0} (xs : List X) (at place : ℕ) (new' other : X) → slice_get (slice_set xs at new') place ≡ Some other → ((place ≡ at) × (new' ≡ other)) ⊎ ((place ≢ at) × (slice_get xs place ≡ Some other))
read_set [] at place new' other there = (let no : None ≡ Some other = there in cc)
read_set (x ∷ xs) zero zero new' other there = inl (refl, same_some new' other there)
read_set (x ∷ xs) zero (suc place) new' other there = inr (λ same. absurd (omega (arith, same)), there)
read_set (x ∷ xs) (suc at) zero new' other there = inr (λ same. absurd (omega (arith, same)), there)
read_set (x ∷ xs) (suc at) (suc place) new' other there =
    elim (read_set xs at place new' other there) [
      | inl both ↦ inl (ap (λ n. suc n) both.0, both.1)
      | inr before ↦ inr (λ same. before.0 (omega (arith, same)), before.1)
    ]

still_shown : (full : Full) (Before After : ℕ → List ℕ → Type 0) (place : ℕ) (shown : ShownRace) → ((text : List ℕ) → Before (place + 1) text → After (place + 1) text) → IsInSlot full Before place shown → IsInSlot full After place shown
still_shown full Before After place shown keeps is = record {
  row = is.row;
  there = is.there;
  is_shown = record { run = is.is_shown.run; is_run = is.is_shown.is_run; is_shown = is.is_shown.is_shown; saved = keeps _ is.is_shown.saved };
}

now_shown : (full : Full) (After : ℕ → List ℕ → Type 0) (schedule : List ℕ) (place : ℕ) (shown : ShownRace) → After (place + 1) schedule → IsOfSchedule full schedule place shown → IsInSlot full After place shown
now_shown full After schedule place shown saved is = record {
  row = is.row;
  there = is.there;
  is_shown = record { run = is.is_shown.run; is_run = is.is_shown.is_run; is_shown = is.is_shown.is_shown; saved = subst (After (place + 1)) (sym is.is_shown.saved) saved };
}

pub slot_put : (full : Full) (Before After : ℕ → List ℕ → Type 0) (schedule : List ℕ) (at : ℕ) (shown : ShownRace) (old new' : List (Option ShownRace)) → new' ≡ slice_set old at (Some shown) → After (at + 1) schedule → ((n : ℕ) (text : List ℕ) → n ≢ at + 1 → Before n text → After n text)
    → IsOfSchedule full schedule at shown → AreSlots full Before old → AreSlots full After new'
slot_put full Before After schedule at shown old new' is saved keeps of before = λ place one there.
    elim (read_set old at place (Some shown) (Some one) (ap (λ xs. slice_get xs place) (sym is) ∙ there)) [
      | inl both ↦
          subst (λ (n : ℕ). IsInSlot full After n one) (sym both.0)
          (subst (λ (s : ShownRace). IsInSlot full After at s) (same_some shown one both.1) (now_shown full After schedule at shown saved of))
      | inr other ↦
          still_shown full Before After place one (λ text. keeps (place + 1) text (λ same. other.0 (omega (arith, same)))) (before place one other.1)
    ]

pub set_apart : {X : Type 0} (xs : List X) (at place : ℕ) (x : X) → at < place → slice_get (slice_set xs at x) place ≡ slice_get xs place
set_apart [] at place x apart = refl
set_apart (y ∷ xs) zero zero x apart = absurd (omega (arith, apart))
set_apart (y ∷ xs) zero (suc place) x apart = refl
set_apart (y ∷ xs) (suc at) zero x apart = absurd (omega (arith, apart))
set_apart (y ∷ xs) (suc at) (suc place) x apart = set_apart xs at place x (omega (arith, apart))

more : {X : Type 0} (xs : List X) (x : X) (place : ℕ) (one : X) → slice_get (xs ++ x ∷ []) place ≡ Some one → (slice_get xs place ≡ Some one) ⊎ ((place ≡ length xs) × (x ≡ one))
more [] x zero one there = inr (refl, same_some x one there)
more [] x (suc place) one there = (let no : None ≡ Some one = there in cc)
more (y ∷ xs) x zero one there = inl there
more (y ∷ xs) x (suc place) one there =
    elim (more xs x place one there) [
      | inl before ↦ inl before
      | inr both ↦ inr (ap (λ n. suc n) both.0, both.1)
    ]

pub one_more : (slots : List (Option ShownRace)) (races all : List ShownRace) (race : ShownRace) (at : ℕ) → all ≡ races ++ race ∷ [] → length races ≡ at → slice_get slots at ≡ Some (Some race) → AreHeld slots races → AreHeld slots all
one_more slots races all race at is count here before = λ place one there.
    elim (more races race place one (ap (λ xs. slice_get xs place) (sym is) ∙ there)) [
      | inl earlier ↦ before place one earlier
      | inr both ↦ ap (λ (n : ℕ). slice_get slots n) (both.0 ∙ count) ∙ here ∙ ap (λ (s : ShownRace). Some (Some s)) both.1
    ]

pub all_shown : (full : Full) (Saves : ℕ → List ℕ → Type 0) (slots : List (Option ShownRace)) (races : List ShownRace) → length races ≡ length full.rows → AreHeld slots races → AreSlots full Saves slots → AreShown full.hunt Saves full.rows races
all_shown full Saves slots races count held are = record {
  count = count;
  each = λ place row one there here.
      let slot = are place one (held place one here) in
      subst (λ (r : Row). IsShown full.hunt (Saves (place + 1)) r one) (same_some slot.row row (sym slot.there ∙ there)) slot.is_shown;
}
