-- The map's look-up and insertion, by a test that compares keys, are those of the rows.
use Rattle.std.proofs.Common.{◌≡◌, ℕ, Bool, true, false, List, [], ◌∷◌, refl, ap}
use Rattle.std.specs.Map.{lookup}
use Rattle.indexmap.specs.IndexMap.{insert_entry}
use Rattle.rv_collide.specs.declared.ending.Ending.{Ending}
use Rattle.rv_report.specs.Races.{same_key}
use Rattle.rv_report.specs.internal.Added.{row_of, raised_row, raised}
use Rattle.rv_report.specs.declared.key.Key.{Key}
use Rattle.rv_report.specs.declared.row.Row.{Row}

module _ (eq : Key → Key → Bool) (same : (a b : Key) → eq a b ≡ same_key a b) where
  looked-step : (key : Key) (e : Key × Row) (es : List (Key × Row)) (b : Bool) → same_key key e.0 ≡ b → lookup (eq key) es ≡ row_of es key → lookup (eq key) (e ∷ es) ≡ row_of (e ∷ es) key
  looked-step key e es true is rest = rw (same key e.0, is) refl
  looked-step key e es false is rest = rw (same key e.0, is) rest

  pub looked-up : (key : Key) (es : List (Key × Row)) → lookup (eq key) es ≡ row_of es key
  looked-up key [] = refl
  looked-up key (e ∷ es) = looked-step key e es (same_key key e.0) refl (looked-up key es)

  inserted-step : (key : Key) (run : ℕ) (ending : Ending) (e : Key × Row) (es : List (Key × Row)) (b : Bool) → same_key key e.0 ≡ b → insert_entry eq es key (raised_row (row_of es key) run ending) ≡ raised es key run ending → insert_entry eq (e ∷ es) key (raised_row (row_of (e ∷ es) key) run ending) ≡ raised (e ∷ es) key run ending
  inserted-step key run ending e es true is rest = rw (same key e.0, is) refl
  inserted-step key run ending e es false is rest = rw (same key e.0, is) (ap (λ xs. e ∷ xs) rest)

  pub inserted : (key : Key) (run : ℕ) (ending : Ending) (es : List (Key × Row)) → insert_entry eq es key (raised_row (row_of es key) run ending) ≡ raised es key run ending
  inserted key run ending [] = refl
  inserted key run ending (e ∷ es) = inserted-step key run ending e es (same_key key e.0) refl (inserted key run ending es)
