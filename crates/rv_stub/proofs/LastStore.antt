-- The last place of some where a test holds.
use Rattle.std.proofs.Common.{◌≡◌, ◌∙◌, ℕ, zero, suc, ◌+◌, ◌-◌, ◌<◌, ◌≤◌, inl, inr, Bool, true, false, Option, Some, None, refl, ap, sym, subst, arith, IsTrue}
use Rattle.std.specs.Prelude.{◌⊎◌, ◌↔◌, if◌then◌else◌}
use Rattle.std.specs.Option.{option_or}
use Rattle.std.proofs.lemmas.Bool.{cases_eq, false≢true}
use Rattle.rv_collide.specs.declared.ending.Ending.{Ending}
use Rattle.rv_collide.specs.declared.ending.Verdict.{Verdict}
use Rattle.rv_collide.specs.declared.ending.Verdict.TheVariants.{Hit, Changed, Quiet}
use Rattle.rv_debug.specs.Placed.{Placed, setting}
use Rattle.rv_report.specs.Exhibit.{IsLastStore, IsOther, stores_at}
use Rattle.rv_report.specs.OfPause.{IsOfPause}
use Rattle.rv_retrace.specs.Going.{last_in}
use Rattle.rv_stub.specs.Met.{last_store, place_by}
use Rattle.rv_stub.specs.MetLaws.{MetIsExhibited}

some_place : (x y : ℕ) → Some x ≡ Some y → x ≡ y
some_place x y h = cc

not_yes : (b : Bool) → (b ≡ true → ⊥) → b ≡ false
not_yes true never = absurd (never refl)
not_yes false never = refl

-- the test holds at the place, which is one of so many from one on, and at no later one of them
record IsLast (holds : ℕ → Bool) (from count place : ℕ) : Type 0 where
  after : from ≤ place
  before : place < from + count
  here : holds place ≡ true
  last : (later : ℕ) → place < later → later < from + count → holds later ≡ true → ⊥

abbrev at_place : (ℕ → Bool) → ℕ → Option ℕ
at_place holds place = if holds place then Some place else None

module _ (holds : ℕ → Bool) (from : ℕ) where
  -- the last of one place more
  newest : (count : ℕ) → holds (from + count) ≡ true → IsLast holds from (suc count) (from + count)
  newest count here = record { after = omega arith; before = omega arith; here = here; last = λ later past inside h. absurd (omega (arith, past, inside)) }

  kept : (count place : ℕ) → holds (from + count) ≡ false → IsLast holds from count place → IsLast holds from (suc count) place
  kept count place none is = record {
    after = is.after;
    before = let before = is.before in omega (arith, before);
    here = is.here;
    last = λ later past inside h. elim (cases_eq later (from + count)) [
      | inl e ↦ false≢true (sym none ∙ ap holds (sym e) ∙ h)
      | inr apart ↦ is.last later past (let ne = apart in omega (arith, inside, ne)) h
    ];
  }

  shorter : (count place : ℕ) → (place ≡ from + count → ⊥) → IsLast holds from (suc count) place → IsLast holds from count place
  shorter count place apart is = record {
    after = is.after;
    before = let before = is.before in omega (arith, before, apart);
    here = is.here;
    last = λ later past inside h. is.last later past (omega (arith, inside)) h;
  }

  found_case : (count place : ℕ) (b : Bool) → holds (from + count) ≡ b → (last_in (at_place holds) from count ≡ Some place → IsLast holds from count place) → option_or (if b then Some (from + count) else None) (last_in (at_place holds) from count) ≡ Some place → IsLast holds from (suc count) place
  found_case count place true here rest e = subst (IsLast holds from (suc count)) (some_place _ _ e) (newest count here)
  found_case count place false none rest e = kept count place none (rest e)

  found : (count place : ℕ) → last_in (at_place holds) from count ≡ Some place → IsLast holds from count place
  found zero place e = cc
  found (suc count) place e = found_case count place (holds (from + count)) refl (found count place) e

  last_none : (count place : ℕ) → IsLast holds from (suc count) place → (place ≡ from + count → ⊥) → holds (from + count) ≡ false
  last_none count place is apart = not_yes (holds (from + count)) (λ h. is.last (from + count) (let before = is.before in omega (arith, before, apart)) (omega arith) h)

  finds : (count place : ℕ) → IsLast holds from count place → last_in (at_place holds) from count ≡ Some place
  finds zero place is = absurd (let after = is.after in let before = is.before in omega (arith, after, before))
  finds (suc count) place is =
      elim (cases_eq place (from + count)) [
        | inl e ↦ let here : holds (from + count) ≡ true = ap holds (sym e) ∙ is.here in rw here (ap Some (sym e))
        | inr apart ↦ let none = last_none count place is apart in rw none (finds count place (shorter count place apart is))
      ]

-- ---- within a pause

abbrev stored : Placed → Ending → ℕ → Bool
stored p told place = stores_at (setting p).start p.entries told.access place

as_last : (p : Placed) (told : Ending) (place : ℕ) → IsLastStore (setting p).start p.entries told place → IsLast (stored p told) (told.paused_at + 1) (told.resumed_at - (told.paused_at + 1)) place
as_last p told place is =
    let after = is.after in
    let before = is.before in
    record {
      after = omega (arith, after);
      before = omega (arith, after, before);
      here = is.stores;
      last = λ later past inside h. is.last later past (omega (arith, after, past, inside)) h;
    }

as_store : (p : Placed) (told : Ending) (place : ℕ) → told.paused_at < told.resumed_at → IsLast (stored p told) (told.paused_at + 1) (told.resumed_at - (told.paused_at + 1)) place → IsLastStore (setting p).start p.entries told place
as_store p told place starts is =
    let after = is.after in
    let before = is.before in
    record {
      after = omega (arith, after);
      before = omega (arith, before, starts);
      stores = is.here;
      last = λ later past inside h. is.last later past (omega (arith, inside, starts)) h;
    }

met_case : (p : Placed) (told : Ending) (place : ℕ) (v : Verdict) → told.verdict ≡ v → IsOfPause (setting p).start p.entries told → (place_by p told v ≡ Some place) ↔ IsOther (setting p).start p.entries told v place
met_case p told place (Hit seen) v of_pause = (λ e. of_pause.is_first seen v ∙ e, λ is. sym (of_pause.is_first seen v) ∙ is)
met_case p told place Changed v of_pause = (
  λ e. as_store p told place of_pause.starts (found (stored p told) (told.paused_at + 1) (told.resumed_at - (told.paused_at + 1)) place e),
  λ is. finds (stored p told) (told.paused_at + 1) (told.resumed_at - (told.paused_at + 1)) place (as_last p told place is),
)
met_case p told place Quiet v of_pause = (λ e. cc, λ is. absurd is)

pub met_is_exhibited : MetIsExhibited
met_is_exhibited p told place of_pause = met_case p told place told.verdict refl of_pause
