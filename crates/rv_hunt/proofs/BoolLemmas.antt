-- Which of several devices have failed.
use Rattle.std.proofs.Common.{◌≡◌, Bool, true, false, refl}
use Rattle.std.specs.Prelude.{◌||◌}

first : (i l g e y : Bool) → ((((i || y) || l) || g) || e) ≡ ((((i || l) || g) || e) || y)
first true l g e y = refl
first false true g e true = refl
first false true g e false = refl
first false false true e true = refl
first false false true e false = refl
first false false false true true = refl
first false false false true false = refl
first false false false false true = refl
first false false false false false = refl

second : (i l g e y : Bool) → ((((i || false) || (l || y)) || g) || e) ≡ ((((i || l) || g) || e) || y)
second true l g e y = refl
second false true g e y = refl
second false false true e true = refl
second false false true e false = refl
second false false false true true = refl
second false false false true false = refl
second false false false false true = refl
second false false false false false = refl

third : (i l g e y : Bool) → ((((i || false) || (l || false)) || (g || y)) || e) ≡ ((((i || l) || g) || e) || y)
third true l g e y = refl
third false true g e y = refl
third false false true e y = refl
third false false false true true = refl
third false false false true false = refl
third false false false false true = refl
third false false false false false = refl

fourth : (i l g e y : Bool) → ((((i || false) || (l || false)) || (g || false)) || (e || y)) ≡ ((((i || l) || g) || e) || y)
fourth true l g e y = refl
fourth false true g e y = refl
fourth false false true e y = refl
fourth false false false true y = refl
fourth false false false false y = refl

-- of four readers the first failed, or the second, or the third, or the fourth
pub image_failed : (i l g e a y : Bool) → a ≡ (i || y) → (((a || l) || g) || e) ≡ ((((i || l) || g) || e) || y)
image_failed i l g e a y is = rw is (first i l g e y)

pub lines_failed : (i l g e a b y : Bool) → a ≡ (i || false) → b ≡ (l || y) → (((a || b) || g) || e) ≡ ((((i || l) || g) || e) || y)
lines_failed i l g e a b y first next = rw (first, next) (second i l g e y)

pub ignored_failed : (i l g e a b c y : Bool) → a ≡ (i || false) → b ≡ (l || false) → c ≡ (g || y) → (((a || b) || c) || e) ≡ ((((i || l) || g) || e) || y)
ignored_failed i l g e a b c y first next last = rw (first, next, last) (third i l g e y)

pub expected_failed : (i l g e a b c d y : Bool) → a ≡ (i || false) → b ≡ (l || false) → c ≡ (g || false) → d ≡ (e || y) → (((a || b) || c) || d) ≡ ((((i || l) || g) || e) || y)
expected_failed i l g e a b c d y first next after last = rw (first, next, after, last) (fourth i l g e y)
