-- What a hunt came to, and its sums.
use Rattle.std.specs.Prelude.{ℕ, ◌+◌, Bool, List, [], ◌∷◌, length}
use Rattle.rv_collide.specs.Counts.{saturated}
use Rattle.rv_engines.specs.declared.built.Built.{Built}
use Rattle.rv_tables.specs.Near.{how_many}
use Rattle.rv_search.specs.Tally.{Tally, pauses_in}
use Rattle.rv_search.specs.declared.hunted.Hunted.{Hunted}
use Rattle.rv_tables.specs.declared.near.Fate.TheVariants.{Met, Held, OthersWaited, NeverReached, Untried}
use Rattle.rv_plans.specs.declared.plans.Mix.{Mix}
use Rattle.rv_tables.specs.declared.row.RaceRow.{RaceRow}
use Rattle.rv_report.specs.declared.key.Key.{Key}

-- How many sites the image has without those that are skipped, what its runs are, what they saw, the rows of its races, these as
-- they are shown, and those that a line of --ignore fits; whether the list of expected races has a name that the image lacks; whether the source
-- lines have no frame of the image; and what the image was built with.
pub record Outcome : Type 0 where
  pub sites : ℕ
  pub mix : Mix
  pub saw : Hunted
  pub rows : List (Key × RaceRow)
  pub races : List (Key × RaceRow)
  pub ignored : List (Key × RaceRow)
  pub gone : Bool
  pub misses : Bool
  pub built : Built

-- of the sampled runs: the sites, how many were armed and paused at, the pauses, how they ended, and their steps
abbrev pub sampled_numbers : ℕ → Tally → List ℕ
sampled_numbers sites t =
    sites ∷ length t.armed ∷ length t.paused ∷ saturated (pauses_in t.sampled) ∷ t.sampled.quiet ∷ t.sampled.hit ∷ t.sampled.changed ∷ t.sampled.unwatched ∷ t.sampled.steps ∷ []

-- how many near pairs came to one of the three that a probe leaves without a race
abbrev pub not_met : Hunted → ℕ
not_met saw = saturated (saturated (how_many saw.table saw.near Held + how_many saw.table saw.near OthersWaited) + how_many saw.table saw.near NeverReached)

-- of the walks: how many there were, and probes and near pairs, and what came of these
abbrev pub walk_numbers : Hunted → List ℕ
walk_numbers saw =
    saw.tally.walks ∷ saw.tally.probes ∷ length saw.near ∷ how_many saw.table saw.near Met ∷ not_met saw ∷ how_many saw.table saw.near Held ∷ how_many saw.table saw.near OthersWaited ∷ how_many saw.table saw.near NeverReached ∷ how_many saw.table saw.near Untried ∷ []
