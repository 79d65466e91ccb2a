-- What `run` keeps of its runs.
use Rattle.std.specs.Prelude.{◌≡◌, ℕ, ◌<◌, ◌^◌, List, length, map, Vec}
use Rattle.std.specs.declared.alloc.Global.{Global}
use Rattle.rv_campaign.specs.Campaign.{AreRuns}
use Rattle.rv_campaign.specs.Run.{Hunt}
use Rattle.rv_collide.specs.Answers.{IsOutput}
use Rattle.rv_collide.specs.Stored.{Stored, setting_of}
use Rattle.rv_collide.specs.Verdict.{endings}
use Rattle.rv_collide.specs.declared.collider.Finished.{Finished}
use Rattle.rv_collide.specs.declared.ending.Ending.{Ending}

-- The run that is over with this core has so few entries, and has printed so little, that memory has room for lists of
-- them.
pub record IsSmall (core : Stored) : Type 0 where
  pub printed : List ℕ
  pub is_output : IsOutput core printed
  pub few_entries : length core.entries < 2 ^ 63
  pub few_bytes : length printed < 2 ^ 63

-- What is kept of the run that is over with this core: its endings.
pub record IsKeptRun (core : Stored) (kept : Vec Ending Global) : Type 0 where
  pub endings_are : kept.items ≡ endings (setting_of core).start core.entries
  pub small : IsSmall core

-- these are the endings of the runs that a campaign has, run by run
pub record AreOfRuns (hunt : Hunt) (runs : ℕ) (kept : List (Vec Ending Global)) : Type 0 where
  pub told : List Finished
  pub are_runs : AreRuns hunt runs told
  pub endings_are : map (λ one. one.endings) told ≡ kept
