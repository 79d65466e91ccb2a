-- Which blocks are shown of a run.
use Rattle.std.specs.Prelude.{ℕ, ◌-◌, ◌==◌, if◌then◌else◌, Option, Some, None, option_map, List, [], ◌∷◌, map, slice_get}
use Rattle.rv_explain.specs.BlockOf.{race_shown}
use Rattle.rv_explain.specs.Blocks.{RaceShown}
use Rattle.rv_races.specs.Races.{Run}
use Rattle.rv_races.specs.declared.races.Race.{Race}

-- the race of a number, from 1 on
abbrev pub race_of : List Race → ℕ → Option Race
race_of races k = if k == 0 then None else slice_get races (k - 1)

-- The blocks that are asked for, with so many entries around each place: those of all races that are found in a run, or
-- that of race K alone, if there is that race.
abbrev pub blocks_asked : Run → ℕ → List Race → Option ℕ → Option (List RaceShown)
blocks_asked run around races None = Some (map (race_shown run around) races)
blocks_asked run around races (Some k) = option_map (λ race. race_shown run around race ∷ []) (race_of races k)
