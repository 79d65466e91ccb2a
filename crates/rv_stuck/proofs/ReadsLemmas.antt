-- What steps read ascends, and has each range that is read.
use Rattle.std.proofs.Common.{◌≡◌, ℕ, Bool, true, false, Option, Some, None, List, [], ◌∷◌, refl, sym, ap, ◌∙◌, arith}
use Rattle.std.specs.Prelude.{◌||◌, ◌&&◌, ◌==◌}
use Rattle.std.specs.List.{AllByRecursion, fold, list_any}
use Rattle.std.proofs.lemmas.Bool.Decides.{nat_tests}
use Rattle.rv_waits.specs.declared.touched.Range.{Range}
use Rattle.rv_stuck.specs.Acts.{is_before, read_by, with_range, with_read, with_step}
use Rattle.rv_stuck.specs.StuckEndLaws.{Ascend, ReadsAreEachOnce, is_same, is_that}
use Rattle.rv_stuck.specs.declared.stuck.RoundStep.{RoundStep}
use Rattle.rv_stuck.proofs.RangeLemmas.{placed}

-- ---- the order

before_all : (a b c : Range) → is_before a b ≡ true → is_before b c ≡ true → is_before a c ≡ true
before_all a b c first second = grind (arith, nat_tests)

-- neither is before the other: they are the same to any range
same_to : (r a b : Range) → is_before a b ≡ false → is_before b a ≡ false → is_same r a ≡ is_same r b
same_to r a b after before =
    let first : a.first ≡ b.first = grind (arith, nat_tests) in
    let size : a.size ≡ b.size = grind (arith, nat_tests) in
    ap (λ (n : ℕ). r.first == n && r.size == a.size) first ∙ ap (λ (n : ℕ). r.first == b.first && r.size == n) size

-- ---- one range more

or_assoc : (a b c : Bool) → (a || (b || c)) ≡ ((a || b) || c)
or_assoc true b c = refl
or_assoc false b c = refl

or_comm : (a b : Bool) → (a || b) ≡ (b || a)
or_comm true true = refl
or_comm true false = refl
or_comm false true = refl
or_comm false false = refl

or_absorb : (a b c : Bool) → a ≡ c → (a || b) ≡ ((a || b) || c)
or_absorb true b c e = refl
or_absorb false true c e = refl
or_absorb false false c e = e

those_step : (after before : Bool) (r q x : Range) (more xs : List Range) → (after ≡ false → before ≡ false → is_same r x ≡ is_same r q) → list_any (is_same r) more ≡ (list_any (is_same r) xs || is_same r q) → list_any (is_same r) (placed after before q x more xs) ≡ (list_any (is_same r) (x ∷ xs) || is_same r q)
those_step true before r q x more xs same e =
    ap (λ (b : Bool). is_same r x || b) e ∙ or_assoc (is_same r x) (list_any (is_same r) xs) (is_same r q)
those_step false true r q x more xs same e = or_comm (is_same r q) (list_any (is_same r) (x ∷ xs))
those_step false false r q x more xs same e =
    or_absorb (is_same r x) (list_any (is_same r) xs) (is_same r q) (same refl refl)

those_range : (r q : Range) (xs : List Range) → list_any (is_same r) (with_range q xs) ≡ (list_any (is_same r) xs || is_same r q)
those_range r q [] = or_comm (is_same r q) false
those_range r q (x ∷ xs) =
    those_step (is_before x q) (is_before q x) r q x (with_range q xs) xs (same_to r x q) (those_range r q xs)

those_read : (r : Range) (o : Option Range) (xs : List Range) → list_any (is_same r) (with_read o xs) ≡ (list_any (is_same r) xs || is_that r o)
those_read r None xs = or_comm false (list_any (is_same r) xs)
those_read r (Some q) xs = those_range r q xs

abbrev reads_it : Range → RoundStep → Bool
reads_it r step = is_that r (read_by step.access)

those_steps : (r : Range) (steps : List RoundStep) (xs : List Range) → list_any (is_same r) (fold with_step xs steps) ≡ (list_any (is_same r) xs || list_any (reads_it r) steps)
those_steps r [] xs = or_comm false (list_any (is_same r) xs)
those_steps r (step ∷ steps) xs =
    those_steps r steps (with_step xs step) ∙ ap (λ (b : Bool). b || list_any (reads_it r) steps) (those_read r (read_by step.access) xs) ∙ sym (or_assoc (list_any (is_same r) xs) (reads_it r step) (list_any (reads_it r) steps))

-- ---- in order

abbrev AllAfter : Range → List Range → Type 0
AllAfter x xs = AllByRecursion (λ other. is_before x other ≡ true) xs

after_too : (a x : Range) (xs : List Range) → is_before a x ≡ true → AllAfter x xs → AllAfter a xs
after_too a x [] first all = tt
after_too a x (y ∷ ys) first all = (before_all a x y first all.0, after_too a x ys first all.1)

all_step : (after before : Bool) (a q x : Range) (more xs : List Range) → is_before a q ≡ true → AllAfter a (x ∷ xs) → AllAfter a more → AllAfter a (placed after before q x more xs)
all_step true before a q x more xs is all deeper = (all.0, deeper)
all_step false true a q x more xs is all deeper = (is, all)
all_step false false a q x more xs is all deeper = all

all_more : (a q : Range) (xs : List Range) → is_before a q ≡ true → AllAfter a xs → AllAfter a (with_range q xs)
all_more a q [] is all = (is, tt)
all_more a q (x ∷ xs) is all =
    all_step (is_before x q) (is_before q x) a q x (with_range q xs) xs is all (all_more a q xs is all.1)

ascend_step : (after before : Bool) (q x : Range) (more xs : List Range) → (after ≡ true → AllAfter x more) → (before ≡ true → AllAfter q (x ∷ xs)) → Ascend more → Ascend (x ∷ xs) → Ascend (placed after before q x more xs)
ascend_step true before q x more xs later here deeper ascend = (later refl, deeper)
ascend_step false true q x more xs later here deeper ascend = (here refl, ascend)
ascend_step false false q x more xs later here deeper ascend = ascend

ascend_range : (q : Range) (xs : List Range) → Ascend xs → Ascend (with_range q xs)
ascend_range q [] ascend = (tt, tt)
ascend_range q (x ∷ xs) ascend =
    ascend_step (is_before x q) (is_before q x) q x (with_range q xs) xs (λ e. all_more x q xs e ascend.0) (λ e. (e, after_too q x xs e ascend.0)) (ascend_range q xs ascend.1) ascend

ascend_read : (o : Option Range) (xs : List Range) → Ascend xs → Ascend (with_read o xs)
ascend_read None xs ascend = ascend
ascend_read (Some q) xs ascend = ascend_range q xs ascend

ascend_steps : (steps : List RoundStep) (xs : List Range) → Ascend xs → Ascend (fold with_step xs steps)
ascend_steps [] xs ascend = ascend
ascend_steps (step ∷ steps) xs ascend = ascend_steps steps (with_step xs step) (ascend_read (read_by step.access) xs ascend)

pub reads_once : ReadsAreEachOnce
reads_once = record { ascend = λ steps. ascend_steps steps [] tt; those = λ range steps. those_steps range steps [] }
