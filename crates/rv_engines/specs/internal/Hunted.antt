-- What `run` has before it writes.
use Rattle.std.specs.Prelude.{◌≡◌, ℕ, List}
use Rattle.rv_campaign.specs.Campaign.{AreRuns}
use Rattle.rv_campaign.specs.Run.{Hunt, IsRun}
use Rattle.rv_collide.specs.Numbers.{numbers}
use Rattle.rv_collide.specs.declared.collider.Finished.{Finished}
use Rattle.rv_report.specs.Races.{races}
use Rattle.rv_engines.specs.Request.{Request}
use Rattle.rv_engines.specs.Campaigns.{Campaign, told_from}
use Rattle.rv_engines.specs.declared.run.hunting.Hunted.{Hunted}

-- what its runs are made of
abbrev pub hunt_of : Hunted → Hunt
hunt_of hunted = record {
  image = hunted.image;
  plan = numbers hunted.plan;
  seed = hunted.seed;
  excluded = hunted.excluded.items;
}

-- this is the campaign, and the race table of the runs that it has
pub record IsReady (r : Request) (hunted : Hunted) (c : Campaign) : Type 0 where
  pub hunt_is : hunt_of hunted ≡ c.hunt
  pub runs : List Finished
  pub are_runs : AreRuns c.hunt r.runs runs
  pub table_is : hunted.table ≡ races (told_from c.hunt.image c.listed 0 runs)

-- the schedule of this run is that of the run of this number
abbrev pub HasScheduleOf : Hunt → ℕ → Finished → Type 0
HasScheduleOf hunt run told =
    (one : Finished) → IsRun hunt run one → (numbers told.plan ≡ numbers one.plan) × (told.entries.items ≡ one.entries.items)
