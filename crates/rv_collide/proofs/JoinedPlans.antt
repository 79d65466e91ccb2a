-- What lists need of a plan.
use Rattle.std.proofs.Common.{◌≡◌, ℕ, suc, ◌+◌, ◌-◌, ◌≤◌, ◌<◌, true, false, cond, List, [], ◌∷◌, ◌++◌, length, take, drop, get_or, drop-cons, Option, Some, Ok, refl, sym, ap, ◌∙◌, arith}
use Rattle.std.specs.Prelude.{max, count_by, slice_get}
use Rattle.std.proofs.lemmas.List.Sums.{sum_by-append}
use Rattle.rv_collide.specs.Armed.{arms}
use Rattle.rv_collide.specs.Entries.{steps}
use Rattle.rv_collide.specs.Forced.{Setting, forced}
use Rattle.rv_collide.specs.Joined.{LegalNeedsNoMore, steps_needed}
use Rattle.rv_collide.specs.Legal.{call_of}
use Rattle.rv_collide.specs.declared.entry.Entry.{Entry}
use Rattle.rv_collide.specs.declared.entry.Entry.TheVariants.{Stepped, Paused, Resumed, Armed, Disarmed}
use Rattle.rv_collide.proofs.Growth.{arm_parts, turn_parts}
use Rattle.rv_collide.proofs.JoinedLegal.{one_more, turns}

-- ---- no more than the plan has

turn_left : (setting : Setting) (xs : List Entry) (e : Entry) → turns e ≡ true → forced setting xs (call_of e) ≡ Ok e → length (steps xs) < setting.plan.steps
turn_left setting xs (Stepped h) turn ok = let parts = turn_parts setting xs h (Stepped h) ok in parts.left
turn_left setting xs (Paused h slot) turn ok = let parts = turn_parts setting xs h (Paused h slot) ok in parts.left
turn_left setting xs (Resumed h) turn ok = cc
turn_left setting xs (Armed a) turn ok = cc
turn_left setting xs (Disarmed a) turn ok = cc

arm_left : (setting : Setting) (xs : List Entry) (e : Entry) → arms e ≡ true → forced setting xs (call_of e) ≡ Ok e → count_by arms xs < setting.plan.arms
arm_left setting xs (Armed a) arm ok = let parts = arm_parts setting xs a (Armed a) ok in parts.left
arm_left setting xs (Stepped h) arm ok = cc
arm_left setting xs (Paused h slot) arm ok = cc
arm_left setting xs (Resumed h) arm ok = cc
arm_left setting xs (Disarmed a) arm ok = cc

needed_allowed : (most k : ℕ) (zs : List Entry) → ((place : ℕ) (e : Entry) → slice_get zs place ≡ Some e → turns e ≡ true → k + length (steps (take place zs)) < most) → steps_needed zs ≤ most - k
unfolding steps steps_needed
needed_allowed most k [] each = omega arith
needed_allowed most k (Stepped h ∷ zs) each =
    let first = each 0 (Stepped h) refl refl in
    let rest = needed_allowed most (k + 1) zs (λ place e there turn. let n = each (suc place) e there turn in omega arith) in
    omega arith
needed_allowed most k (Paused h slot ∷ zs) each =
    let first = each 0 (Paused h slot) refl refl in
    let rest = needed_allowed most k zs (λ place e there turn. each (suc place) e there turn) in
    omega arith
needed_allowed most k (Resumed h ∷ zs) each = needed_allowed most k zs (λ place e there turn. each (suc place) e there turn)
needed_allowed most k (Armed a ∷ zs) each = needed_allowed most k zs (λ place e there turn. each (suc place) e there turn)
needed_allowed most k (Disarmed a ∷ zs) each = needed_allowed most k zs (λ place e there turn. each (suc place) e there turn)

arms_allowed : (most k : ℕ) (zs : List Entry) → ((place : ℕ) (e : Entry) → slice_get zs place ≡ Some e → arms e ≡ true → k + count_by arms (take place zs) < most) → count_by arms zs ≤ most - k
arms_allowed most k [] each = omega arith
arms_allowed most k (z ∷ zs) each =
    elim (arms z) as (λ b. arms z ≡ b → count_by arms zs ≤ most - (k + (0 + cond b 1 0)) → count_by arms (z ∷ zs) ≤ most - k) [
      | true ↦ λ arm rest.
          let first = each 0 z refl arm in
          let all = one_more z zs ∙ ap (λ b. (0 + cond b 1 0) + count_by arms zs) arm in
          omega arith
      | false ↦ λ arm rest. let all = one_more z zs ∙ ap (λ b. (0 + cond b 1 0) + count_by arms zs) arm in omega arith
    ] refl
    (arms_allowed most (k + (0 + cond (arms z) 1 0)) zs
    (λ place e there arm. let n = each (suc place) e there arm in let front = one_more z (take place zs) in omega arith))

none_before : (n m : ℕ) → n < m → 0 + n < m
none_before n m lt = omega arith

nothing_less : (n most : ℕ) → n ≤ most - 0 → n ≤ most
nothing_less n most le = omega arith

pub needs_no_more : LegalNeedsNoMore
needs_no_more start plan entries legal =
    let setting : Setting = record { start = start; plan = plan } in
    record {
      steps_of = nothing_less (steps_needed entries) plan.steps (needed_allowed plan.steps 0 entries (λ place e there turn. none_before (length (steps (take place entries))) plan.steps (turn_left setting (take place entries) e turn (legal place e there))));
      arms_of = nothing_less (count_by arms entries) plan.arms (arms_allowed plan.arms 0 entries (λ place e there arm. none_before (count_by arms (take place entries)) plan.arms (arm_left setting (take place entries) e arm (legal place e there))));
    }

-- ---- both together

pub needed_append : (xs ys : List Entry) → steps_needed (xs ++ ys) ≤ max (steps_needed xs) (length (steps xs) + steps_needed ys)
unfolding steps steps_needed
needed_append [] ys = omega arith
needed_append (Stepped h ∷ xs) ys = let rest = needed_append xs ys in omega arith
needed_append (Paused h slot ∷ xs) ys = let rest = needed_append xs ys in omega arith
needed_append (Resumed h ∷ xs) ys = needed_append xs ys
needed_append (Armed a ∷ xs) ys = needed_append xs ys
needed_append (Disarmed a ∷ xs) ys = needed_append xs ys

pub arms_append : (xs ys : List Entry) → count_by arms (xs ++ ys) ≡ count_by arms xs + count_by arms ys
arms_append xs ys = sum_by-append (λ x. cond (arms x) 1 0) xs ys

-- ---- as the code counts

pub none_needed : steps_needed [] ≡ 0
unfolding steps_needed
none_needed = refl

pub step_needed : (h : ℕ) (later : List Entry) → steps_needed (Stepped h ∷ later) ≡ 1 + steps_needed later
unfolding steps_needed
step_needed h later = refl

pub pause_needed : (h : ℕ) (slot : Option ℕ) (later : List Entry) → steps_needed (Paused h slot ∷ later) ≡ max 1 (steps_needed later)
unfolding steps_needed
pause_needed h slot later = refl

pub other_needed : (e : Entry) (later : List Entry) → turns e ≡ false → steps_needed (e ∷ later) ≡ steps_needed later
unfolding steps_needed
other_needed (Stepped h) later other = cc
other_needed (Paused h slot) later other = cc
other_needed (Resumed h) later other = refl
other_needed (Armed a) later other = refl
other_needed (Disarmed a) later other = refl

one_back : (place : ℕ) → 0 < place → suc (place - 1) ≡ place
one_back place some = omega arith

-- the entries from one place before
pub from_before : (xs : List Entry) (place : ℕ) (e : Entry) → 0 < place → place ≤ length xs → e ≡ get_or xs (place - 1) e → drop (place - 1) xs ≡ e ∷ drop place xs
from_before xs place e some le is =
    drop-cons xs (place - 1) e (omega arith) ∙ ap (λ (x : Entry). x ∷ drop (suc (place - 1)) xs) (sym is) ∙ ap (λ n. e ∷ drop n xs) (one_back place some)
