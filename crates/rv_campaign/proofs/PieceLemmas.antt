-- What is kept of a campaign's runs, piece by piece.
use Rattle.std.proofs.Common.{◌≡◌, ℕ, zero, suc, ◌+◌, ◌-◌, ◌<◌, ◌≤◌, inl, inr, List, [], ◌∷◌, ◌++◌, length, Some, refl, sym, ap, subst, ◌∙◌, arith, length-append}
use Rattle.std.specs.Prelude.{IfOk, slice_get, Result, Ok, Err}
use Rattle.std.proofs.Math.Nat.{div-add-mod}
use Rattle.std.proofs.lemmas.Bool.{cases_lt}
use Rattle.std.proofs.lemmas.Option.{slice_get_within}
use Rattle.rv_campaign.proofs.GoingLemmas.{finished}
use Rattle.rv_campaign.specs.Campaign.{AreKeptOf, AreRuns}
use Rattle.rv_campaign.specs.Kept.{IsCoreOf, IsKept, Source}
use Rattle.rv_campaign.specs.Run.{Hunt}
use Rattle.rv_campaign.specs.internal.Pieces.{AreKeptBetween, first_of}
use Rattle.rv_campaign.specs.internal.Whole.{IsLeftBy}
use Rattle.rv_collide.specs.Plan.{Numbers}
use Rattle.rv_collide.specs.Stored.{Stored}
use Rattle.rv_collide.specs.declared.collider.Finished.{Finished}
use Rattle.rv_sample.specs.Sites.{sites}

-- ---- where the pieces begin

pub first_begins : (runs workers : ℕ) → first_of runs workers 0 ≡ 0
first_begins runs workers = search arith

pub last_ends : (runs workers : ℕ) → 0 < workers → first_of runs workers workers ≡ runs
last_ends runs workers some = omega (arith, some, div-add-mod runs workers)

pub begins_in_order : (runs workers worker : ℕ) → first_of runs workers worker ≤ first_of runs workers (worker + 1)
begins_in_order runs workers worker = omega arith

-- ---- what is kept of a run

-- what is kept of the core at its end, where something is
pub kept_of : {K E : Type 0} (keeps : Stored → K → Type 0) (source : Source) (plan : Numbers) (run : ℕ) (core : Stored) (r : Result K E) → IsCoreOf source plan run core → IfOk r (λ kept. keeps core kept) → IfOk r (λ kept. IsKept keeps source plan run kept)
kept_of keeps source plan run core (Err e) is_core is_kept = tt
kept_of keeps source plan run core (Ok kept) is_core is_kept = record { core = core; is_core = is_core; is_kept = is_kept }

-- ---- what is kept of the runs

front : {X : Type 0} (xs ys : List X) (i : ℕ) → i < length xs → slice_get (xs ++ ys) i ≡ slice_get xs i
front [] ys i below = absurd (omega arith)
front (x ∷ xs) ys zero below = refl
front (x ∷ xs) ys (suc i) below = front xs ys i (omega arith)

back : {X : Type 0} (xs ys : List X) (i place : ℕ) → place ≡ length xs + i → slice_get (xs ++ ys) place ≡ slice_get ys i
back [] ys i place is = ap (slice_get ys) (omega (arith, is))
back (x ∷ xs) ys i zero is = absurd (omega (arith, is))
back (x ∷ xs) ys i (suc place) is = back xs ys i place (omega (arith, is))

same_value : {X : Type 0} (x y : X) → Some x ≡ Some y → x ≡ y
same_value x y h = cc

nothing : {X : Type 0} (i : ℕ) (x : X) → slice_get [] i ≡ Some x → ⊥
nothing i x h = cc

pub none_kept : {K : Type 0} (keeps : Stored → K → Type 0) (source : Source) (plan : Numbers) (first end : ℕ) (kept : List K) → first ≡ end → kept ≡ [] → AreKeptBetween keeps source plan first end kept
none_kept {K = K} keeps source plan first end kept same none = subst (λ (them : List K). AreKeptBetween keeps source plan first end them) (sym none) (record {
  count = omega (arith, same);
  each = λ place one there. absurd (nothing place one there);
})

pub one_kept : {K : Type 0} (keeps : Stored → K → Type 0) (source : Source) (plan : Numbers) (run end : ℕ) (one : K) → end ≡ run + 1 → IsKept keeps source plan run one → AreKeptBetween keeps source plan run end (one ∷ [])
one_kept {K = K} keeps source plan run end one same is = record {
  count = sym same;
  each = λ place x there.
      let within = slice_get_within (one ∷ []) place x there in
      let here : place ≡ 0 = omega arith in
      let it : one ≡ x = same_value one x (sym (ap (slice_get (one ∷ [])) here) ∙ there) in
      let number : run ≡ run + place = omega (arith, here) in
      subst (λ (y : K). IsKept keeps source plan (run + place) y) it (subst (λ (k : ℕ). IsKept keeps source plan k one) number is);
}

-- what is kept of two pieces that follow one another
pub joined : {K : Type 0} (keeps : Stored → K → Type 0) (source : Source) (plan : Numbers) (first middle end : ℕ) (xs ys all : List K) → AreKeptBetween keeps source plan first middle xs → AreKeptBetween keeps source plan middle end ys → all ≡ xs ++ ys → AreKeptBetween keeps source plan first end all
joined {K = K} keeps source plan first middle end xs ys all front_runs back_runs is =
    let long = length-append xs ys in
    let before = front_runs.count in
    let after = back_runs.count in
    subst (λ (them : List K). AreKeptBetween keeps source plan first end them) (sym is) (record {
      count = omega (arith, long, before, after);
      each = λ place one there. elim (cases_lt place (length xs)) [
        | inl lt ↦ front_runs.each place one (sym (front xs ys place lt) ∙ there)
        | inr ge ↦ (let from_middle : place ≡ length xs + (place - length xs) = omega (arith, ge) in
            let number : middle + (place - length xs) ≡ first + place = omega (arith, ge, before) in
            subst (λ (k : ℕ). IsKept keeps source plan k one) number
            (back_runs.each (place - length xs) one (sym (back xs ys (place - length xs) place from_middle) ∙ there)))
      ];
    })

-- what is kept of the runs from 0 on is kept of the campaign's
pub are_kept_of : {K : Type 0} (keeps : Stored → K → Type 0) (hunt : Hunt) (runs : ℕ) {found : List ℕ} {first end : ℕ} (kept : List K) → AreKeptBetween keeps (record { image = hunt.image; sites = found; seed = hunt.seed }) hunt.plan first end kept → found ≡ sites hunt.image hunt.excluded → first ≡ 0 → end ≡ runs → AreKeptOf keeps hunt runs kept
are_kept_of keeps hunt runs {found = found} {first = first} {end = end} kept between is from till = record {
  count = (let count = between.count in omega (arith, count, from, till));
  each = λ run one there.
      let number : first + run ≡ run = omega (arith, from) in
      subst (λ (s : List ℕ). IsKept keeps (record { image = hunt.image; sites = s; seed = hunt.seed }) hunt.plan run one) is
      (subst (λ (k : ℕ). IsKept keeps (record { image = hunt.image; sites = found; seed = hunt.seed }) hunt.plan k one) number (between.each run one there));
}

-- ---- whole runs

pub are_runs : (hunt : Hunt) (runs : ℕ) (told : List Finished) → AreKeptOf IsLeftBy hunt runs told → AreRuns hunt runs told
are_runs hunt runs told are = record {
  count = are.count;
  each = λ run one there.
      let kept = are.each run one there in
      let left = kept.is_kept in
      finished hunt.image hunt.plan (sites hunt.image hunt.excluded) hunt.seed run kept.core one
      kept.is_core left.plan_is left.entries_are left.endings_are left.output_is;
}
