-- What is chosen of two lists is the better of what is chosen of each.
use Rattle.std.proofs.Common.{◌≡◌, ◌∙◌, sym, ap, refl, arith, Bool, true, false, Option, Some, None, List, [], ◌∷◌, ◌++◌}
use Rattle.std.specs.Prelude.{ℕ, filter}
use Rattle.std.specs.List.{fold}
use Rattle.std.proofs.lemmas.Bool.Decides.{nat_tests}
use Rattle.std.proofs.lemmas.Grind.{fold-append}
use Rattle.std.proofs.lemmas.List.Elements.{filter-append}
use Rattle.rv_elf.specs.Contents.{Named}
use Rattle.rv_symbols.specs.Symbols.{chosen, first_of, holds_closer, is_nearer}
use Rattle.rv_symbols.specs.declared.steps.Rule.{Rule}
use Rattle.rv_symbols.specs.declared.steps.Rule.TheVariants.{Holding, Below}
use Rattle.rv_symbols.specs.internal.Steps.{better, covers, first_by, goes_before}

-- Where one of three goes before the next and that before the last, the first goes before the last; and neither where
-- neither does.
pub record IsOrder (before : Named → Named → Bool) : Type 0 where
  pub through : (x y z : Named) → before z y ≡ true → before y x ≡ true → before z x ≡ true
  pub apart : (x y z : Named) → before z y ≡ false → before y x ≡ false → before z x ≡ false

holds_closer-order : IsOrder holds_closer
holds_closer-order = record {
  through = λ x y z p q. grind (arith, nat_tests);
  apart = λ x y z p q. grind (arith, nat_tests);
}

is_nearer-order : IsOrder is_nearer
is_nearer-order = record {
  through = λ x y z p q. grind (arith, nat_tests);
  apart = λ x y z p q. grind (arith, nat_tests);
}

pub goes_before-order : (rule : Rule) → IsOrder (goes_before rule)
goes_before-order Holding = holds_closer-order
goes_before-order Below = is_nearer-order

better-by_cases : (before : Named → Named → Bool) → IsOrder before → (x y z : Named) (a b : Bool) → before y x ≡ a → before z y ≡ b
    → better before (better before (Some x) (Some y)) (Some z) ≡ better before (Some x) (better before (Some y) (Some z))
better-by_cases before order x y z true true p q = let r = order.through x y z q p in simp (p, q, r)
better-by_cases before order x y z true false p q = simp (p, q)
better-by_cases before order x y z false true p q = simp (p, q)
better-by_cases before order x y z false false p q = let r = order.apart x y z q p in simp (p, q, r)

-- the better of three, from the front or from the back
better-two : (before : Named → Named → Bool) → IsOrder before → (x y z : Named)
    → better before (better before (Some x) (Some y)) (Some z) ≡ better before (Some x) (better before (Some y) (Some z))
better-two before order x y z = better-by_cases before order x y z (before y x) (before z y) refl refl

better-chosen : (before : Named → Named → Bool) → IsOrder before → (one other : Option Named) (y : Named)
    → better before (chosen before one y) other ≡ better before one (better before (Some y) other)
better-chosen before order one None y = refl
better-chosen before order None (Some z) y = refl
better-chosen before order (Some x) (Some z) y = better-two before order x y z

fold-better : (before : Named → Named → Bool) → IsOrder before → (one : Option Named) (ys : List Named)
    → fold (chosen before) one ys ≡ better before one (first_of before ys)
fold-better before order one [] = refl
fold-better before order one (y ∷ ys) =
    fold-better before order (chosen before one y) ys ∙ better-chosen before order one (first_of before ys) y
    ∙ ap (better before one) (sym (fold-better before order (Some y) ys))

pub first_by-append : (rule : Rule) (xs ys : List Named) (address : ℕ)
    → first_by rule (xs ++ ys) address ≡ better (goes_before rule) (first_by rule xs address) (first_by rule ys address)
unfolding first_by
first_by-append rule xs ys address =
    rw (filter-append (covers rule address) xs ys, fold-append (chosen (goes_before rule)) None (filter (covers rule address) xs) (filter (covers rule address) ys))
    (fold-better (goes_before rule) (goes_before-order rule) (first_of (goes_before rule) (filter (covers rule address) xs)) (filter (covers rule address) ys))
