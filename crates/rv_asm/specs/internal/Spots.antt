-- The first label of each name, by a map.
use Rattle.std.specs.Prelude.{◌≡◌, ℕ, List}
use Rattle.std.specs.Ordering.{nat_cmp}
use Rattle.std.specs.Cmp.Lexicographic.{slice_cmp}
use Rattle.std.specs.BTreeMap.{BTreeMap, get_by}
use Rattle.rv_asm.specs.declared.passes.place.Label.{Label}
use Rattle.rv_asm.specs.declared.passes.place.Spot.{Spot}
use Rattle.rv_asm.specs.Layout.{spot_of}
use denote.Ref.{Bor}

-- the map finds where the first label of each name stands
pub record FindsFirst (first : BTreeMap (Bor (List ℕ)) Spot) (labels : List Label) : Type 0 where
  pub finds : (name : List ℕ) → get_by (λ key. slice_cmp nat_cmp name key.now) first ≡ spot_of labels name
