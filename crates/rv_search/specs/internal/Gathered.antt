-- What the probes of a walk have come to so far.
use Rattle.std.specs.Prelude.{◌≡◌, ℕ, ◌++◌, All, List, length, map}
use Rattle.rv_search.specs.Hunt.{Hunt, IsWalkOf}
use Rattle.rv_search.specs.KeptRun.{Gone, IsOfSome, begin, reports_of_parts}
use Rattle.rv_tables.specs.Near.{probed_pair, seen_pair}
use Rattle.rv_search.specs.Summary.{counts_of_walk}
use Rattle.rv_search.specs.declared.gathered.Gathered.{Gathered}
use Rattle.rv_search.specs.declared.run_walk.RunWalk.{RunWalk}
use Rattle.rv_walk.specs.Part.{IsPart}
use Rattle.rv_walk.specs.Walked.{Walked}
use Rattle.rv_walk.specs.declared.near_pair.NearPair.{NearPair}
use Rattle.rv_walk.specs.declared.probes.Part.{Part}

pub record IsGathered (hunt : Hunt) (gone : Gone) (pairs : List NearPair) (parts : List Part) (gathered : Gathered) : Type 0 where
  pub counts_are : gathered.counts ≡ counts_of_walk (length gone.harts) parts
  pub parts_are : gathered.parts ≡ length parts
  pub reports_are : gathered.reports.items ≡ reports_of_parts hunt gone 1 parts
  pub near_are : gathered.near.items ≡ map seen_pair pairs ++ map probed_pair parts
  pub tried_are : All (IsOfSome gathered.reports.items) gathered.trials.tried.items

-- of parts of the walk of the run of that number
pub record AreGathered (hunt : Hunt) (run : ℕ) (made : RunWalk) (gathered : Gathered) : Type 0 where
  pub walk : Walked
  pub is_walk : IsWalkOf hunt run walk
  pub harts_are : walk.harts ≡ made.left.harts.items
  pub parts : List Part
  pub are_parts : All (IsPart walk) parts
  pub is_gathered : IsGathered hunt (record { start = begin hunt run; harts = made.left.harts.items }) made.left.pairs.items parts gathered
