-- What is asked of a hunt, and the runs that it asks for.
use Rattle.std.specs.Prelude.{◌≡◌, ⊤, ℕ, ◌+◌, ◌^◌, ◌≤◌, List}
use Rattle.rv_campaign.specs.Kept.{Source}
use Rattle.rv_campaign.specs.Run.{IsRunOver}
use Rattle.rv_collide.specs.declared.collider.Finished.{Finished}
use Rattle.rv_hart.specs.State.{start as first_state}
use Rattle.rv_plans.specs.Plans.{Given, plan_of}
use Rattle.rv_plans.specs.declared.limit.Limit.{Limit}
use Rattle.rv_plans.specs.declared.limit.Limit.TheVariants.{Runs, Budget}
use Rattle.rv_walk.specs.Walked.{Walked}

-- What is asked of a hunt: what its runs are made of, what is given of their plans, the ranges of the listed names and of those in
-- which a hart may wait for ever, the number of the first run, and how far it goes.
pub record Hunt : Type 0 where
  pub source : Source
  pub given : Given
  pub ranges : List (ℕ × ℕ)
  pub idle : List (ℕ × ℕ)
  pub first : ℕ
  pub limit : Limit

-- the runs that are asked for have numbers of 32 bits
abbrev pub AreNumbers : ℕ → Limit → Type 0
AreNumbers first (Runs runs) = first + runs ≤ 2 ^ 32
AreNumbers first (Budget steps) = ⊤

pub record IsHunt (hunt : Hunt) : Type 0 where
  pub numbers : AreNumbers hunt.first hunt.limit

-- a sampled run of that number: the one that its words drive
abbrev pub IsSampledRun : Hunt → ℕ → Finished → Type 0
IsSampledRun hunt run left = IsRunOver hunt.source.image (plan_of hunt.given run) hunt.source.sites hunt.source.seed run left

-- a walk of that number: it begins at the image's start, with the harts of its plan
pub record IsWalkOf (hunt : Hunt) (run : ℕ) (walk : Walked) : Type 0 where
  pub start_is : walk.start ≡ first_state hunt.source.image.segments hunt.source.image.entry (plan_of hunt.given run).harts
  pub sites_are : walk.sites ≡ hunt.source.sites
