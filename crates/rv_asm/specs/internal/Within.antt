-- The places that a source's lines have.
use Rattle.std.specs.Prelude.{ℕ, ◌≤◌, ◌<◌, ◌+◌, ◌^◌, List, length}
use Rattle.rv_asm.specs.declared.passes.place.Place.{Place}

-- neither section has passed its limit
pub record IsWithin (place : Place) : Type 0 where
  pub text : place.text_size ≤ 65_536
  pub datas : place.data_size ≤ 1_048_576

-- the lines of what is left of a source can be counted
pub record CanGoOn (place : Place) (rest : List ℕ) : Type 0 where
  pub within : IsWithin place
  pub counted : place.lines_before + length rest < 2 ^ 64
