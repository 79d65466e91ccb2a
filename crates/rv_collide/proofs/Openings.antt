-- The open pauses after one more entry.
use Rattle.std.proofs.Common.{◌≡◌, ℕ, ◌+◌, Bool, true, false, cond, List, [], ◌∷◌, ◌++◌, length, refl, sym, ap, ◌∙◌, arith, append_assoc, add-zero, add-one}
use Rattle.std.specs.Prelude.{◌||◌, ◌==◌, not, filter}
use Rattle.std.specs.List.{list_any}
use Rattle.std.proofs.lemmas.Bool.Decides.{nat_tests}
use Rattle.std.proofs.lemmas.List.{append-nil}
use Rattle.std.proofs.lemmas.List.Elements.{filter-append}
use Rattle.std.proofs.lemmas.List.Folds.{list_any-append}
use Rattle.rv_collide.specs.Pause.{Opening, resumes, opened, openings_from}
use Rattle.rv_collide.specs.declared.entry.Entry.{Entry}
use Rattle.rv_collide.specs.declared.entry.Entry.TheVariants.{Stepped, Paused, Resumed, Armed, Disarmed}

or_none : (b : Bool) → (b || false) ≡ b
or_none true = refl
or_none false = refl

opened_stays : (place : ℕ) (x e : Entry) (later : List Entry) → ((h : ℕ) → resumes h e ≡ false) → opened place x (later ++ e ∷ []) ≡ opened place x later
opened_stays place (Paused h slot) e later none =
    ap (λ b. cond b [] (record { hart = h; slot = slot; place = place } ∷ []))
    (list_any-append (resumes h) later (e ∷ []) ∙ ap (λ b. list_any (resumes h) later || (b || false)) (none h) ∙ or_none (list_any (resumes h) later))
opened_stays place (Stepped h) e later none = refl
opened_stays place (Resumed h) e later none = refl
opened_stays place (Armed a) e later none = refl
opened_stays place (Disarmed a) e later none = refl

from_next : (place n : ℕ) → place + 1 + n ≡ place + (n + 1)
from_next place n = omega arith

pub openings_push : (place : ℕ) (xs : List Entry) (e : Entry) → ((h : ℕ) → resumes h e ≡ false) → openings_from place (xs ++ e ∷ []) ≡ openings_from place xs ++ opened (place + length xs) e []
unfolding openings_from
openings_push place [] e none = append-nil (opened place e []) ∙ ap (λ p. opened p e []) (sym (add-zero place))
openings_push place (x ∷ xs) e none =
    ap (λ os. os ++ openings_from (place + 1) (xs ++ e ∷ [])) (opened_stays place x e xs none)
    ∙ ap (λ os. opened place x xs ++ os) (openings_push (place + 1) xs e none)
    ∙ sym (append_assoc (opened place x xs) (openings_from (place + 1) xs) (opened (place + 1 + length xs) e []))
    ∙ ap (λ p. (opened place x xs ++ openings_from (place + 1) xs) ++ opened p e []) (from_next place (length xs) ∙ ap (λ n. place + n) (add-one (length xs)))

abbrev pub without_hart : ℕ → List Opening → List Opening
without_hart h os = filter (λ (o : Opening). not (o.hart == h)) os

eq_both : (a b : ℕ) → (a == b) ≡ (b == a)
eq_both a b = grind (arith, nat_tests)

closed : (h : ℕ) (any : Bool) (o : Opening) → cond (any || ((h == o.hart) || false)) [] (o ∷ []) ≡ without_hart h (cond any [] (o ∷ []))
closed h true o = refl
closed h false o =
    rw (eq_both h o.hart) (elim (o.hart == h) as (λ b. cond (b || false) [] (o ∷ []) ≡ cond (not b) (o ∷ []) []) [ true ↦ refl | false ↦ refl ])

opened_closed : (place h : ℕ) (x : Entry) (later : List Entry) → opened place x (later ++ Resumed h ∷ []) ≡ without_hart h (opened place x later)
opened_closed place h (Paused other slot) later =
    ap (λ b. cond b [] (record { hart = other; slot = slot; place = place } ∷ [])) (list_any-append (resumes other) later (Resumed h ∷ []))
    ∙ closed h (list_any (resumes other) later) (record { hart = other; slot = slot; place = place })
opened_closed place h (Stepped other) later = refl
opened_closed place h (Resumed other) later = refl
opened_closed place h (Armed a) later = refl
opened_closed place h (Disarmed a) later = refl

pub openings_resume : (place h : ℕ) (xs : List Entry) → openings_from place (xs ++ Resumed h ∷ []) ≡ without_hart h (openings_from place xs)
unfolding openings_from
openings_resume place h [] = refl
openings_resume place h (x ∷ xs) =
    ap (λ os. os ++ openings_from (place + 1) (xs ++ Resumed h ∷ [])) (opened_closed place h x xs)
    ∙ ap (λ os. without_hart h (opened place x xs) ++ os) (openings_resume (place + 1) h xs)
    ∙ sym (filter-append (λ (o : Opening). not (o.hart == h)) (opened place x xs) (openings_from (place + 1) xs))
