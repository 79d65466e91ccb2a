-- Whose turn is next, in a circle.
use Rattle.std.proofs.Common.{◌≡◌, ℕ, zero, suc, ◌+◌, ◌%◌, ◌<◌, true, false, List, [], ◌∷◌, length, sym, ap, subst, ◌∙◌, arith}
use Rattle.std.specs.Prelude.{slice_get}
use Rattle.rv_hart.specs.Refusals.{is_running_hart}
use Rattle.rv_hart.specs.declared.hart.Hart.{Hart}
use Rattle.rv_hart.specs.State.{State}
use Rattle.rv_waits.specs.Round.{Waits}
use Rattle.rv_waits.specs.Stuck.{Runs}
use Rattle.rv_waits.specs.Turn.{AllMayRest, IsNextFrom, MayRest}
use Rattle.rv_waits.proofs.CircleLemmas.{mod_once, reaches}

runs_within : (harts : List Hart) (h : ℕ) → is_running_hart (slice_get harts h) ≡ true → h < length harts
runs_within [] h is = let e : false ≡ true = is in cc
runs_within (x ∷ xs) zero is = omega arith
runs_within (x ∷ xs) (suc h) is = let e : h < length xs = runs_within xs h is in omega arith

pub next_is : (s : State) (from passed n : ℕ) → n ≡ length s.harts → passed < n → Runs s ((from % n + passed) % n) → ((k : ℕ) → k < passed → MayRest s ((from + k) % length s.harts)) → IsNextFrom s from ((from % n + passed) % n)
next_is s from passed n count below runs rest = record {
  passed = passed;
  few = omega arith;
  is_hart = mod_once from passed n ∙ ap (λ m. (from + passed) % m) count;
  runs = runs;
  rest = rest;
}

pub one_rests : (s : State) (from passed k n : ℕ) → n ≡ length s.harts → k ≡ passed → MayRest s ((from % n + passed) % n) → MayRest s ((from + k) % length s.harts)
one_rests s from passed k n count is rests =
    let e : (from % n + passed) % n ≡ (from + k) % length s.harts = mod_once from passed n ∙ ap (λ m. (from + passed) % m) count ∙ ap (λ m. (from + m) % length s.harts) (sym is) in
    subst (MayRest s) e rests

pub all_rest : (s : State) (from : ℕ) → ((k : ℕ) → k < length s.harts → MayRest s ((from + k) % length s.harts)) → AllMayRest s
all_rest s from rest h runs =
    let r = reaches (length s.harts) from h (runs_within s.harts h runs) in
    subst (Waits s) r.2 (rest r.0 r.1 (subst (Runs s) (sym r.2) runs))
