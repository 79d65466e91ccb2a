-- The map's look-up and insertion, by a test that compares keys, are those of the rows.
use Rattle.std.proofs.Common.{◌≡◌, Bool, true, false, List, [], ◌∷◌, refl, ap}
use Rattle.std.specs.Prelude.{is_some}
use Rattle.std.specs.Map.{lookup}
use Rattle.indexmap.specs.IndexMap.{insert_entry}
use Rattle.rv_tables.specs.Keyed.{added_by}
use Rattle.rv_tables.specs.Rows.{has_race}
use Rattle.rv_tables.specs.Keyed.{row_at, with_row}
use Rattle.rv_tables.specs.declared.row.RaceRow.{RaceRow}
use Rattle.rv_report.specs.Races.{same_key}
use Rattle.rv_report.specs.declared.key.Key.{Key}

has-step : (key : Key) (e : Key × RaceRow) (es : List (Key × RaceRow)) (b : Bool) → same_key key e.0 ≡ b → is_some (row_at same_key es key) ≡ has_race key es → is_some (row_at same_key (e ∷ es) key) ≡ has_race key (e ∷ es)
has-step key e es true is rest = rw is refl
has-step key e es false is rest = rw is rest

pub has-row : (key : Key) (es : List (Key × RaceRow)) → is_some (row_at same_key es key) ≡ has_race key es
has-row key [] = refl
has-row key (e ∷ es) = has-step key e es (same_key key e.0) refl (has-row key es)

module _ {K V : Type 0} (test : K → K → Bool) (join : V → V → V) (eq : K → K → Bool) (same : (a b : K) → eq a b ≡ test a b) where
  looked-step : (key : K) (e : K × V) (es : List (K × V)) (b : Bool) → test key e.0 ≡ b → lookup (eq key) es ≡ row_at test es key → lookup (eq key) (e ∷ es) ≡ row_at test (e ∷ es) key
  looked-step key e es true is rest = rw (same key e.0, is) refl
  looked-step key e es false is rest = rw (same key e.0, is) rest

  pub looked-up : (key : K) (es : List (K × V)) → lookup (eq key) es ≡ row_at test es key
  looked-up key [] = refl
  looked-up key (e ∷ es) = looked-step key e es (test key e.0) refl (looked-up key es)

  inserted-step : (key : K) (row : V) (e : K × V) (es : List (K × V)) (b : Bool) → test key e.0 ≡ b → insert_entry eq es key (with_row join (row_at test es key) row) ≡ added_by test join es (key, row) → insert_entry eq (e ∷ es) key (with_row join (row_at test (e ∷ es) key) row) ≡ added_by test join (e ∷ es) (key, row)
  inserted-step key row e es true is rest = rw (same key e.0, is) refl
  inserted-step key row e es false is rest = rw (same key e.0, is) (ap (λ xs. e ∷ xs) rest)

  pub inserted : (key : K) (row : V) (es : List (K × V)) → insert_entry eq es key (with_row join (row_at test es key) row) ≡ added_by test join es (key, row)
  inserted key row [] = refl
  inserted key row (e ∷ es) = inserted-step key row e es (test key e.0) refl (inserted key row es)
