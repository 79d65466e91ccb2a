-- The plans of a hunt's runs. No one plan finds all races, so they go through all scales.
use Rattle.std.specs.Prelude.{ℕ, Bool, true, false, ◌+◌, ◌/◌, ◌%◌, ◌≤◌, ◌==◌, if◌then◌else◌, Option, unwrap_or, IfSome}
use Rattle.rv_break.specs.declared.claim.TheConstants.{MOST_SLOTS}
use Rattle.rv_collide.specs.Plan.{Numbers}
use Rattle.rv_collide.specs.declared.plan.TheConstants.{MOST_ARMS, MOST_PAUSE, MOST_STEPS}
use Rattle.rv_hart.specs.declared.machine.TheConstants.{MOST_HARTS}
use Rattle.rv_plans.specs.declared.plans.Lengths.{Lengths}
use Rattle.rv_plans.specs.declared.plans.Mix.{Mix}
use Rattle.rv_plans.specs.declared.plans.Mix.TheVariants.{Mixed, Sampled, Walks}
use Rattle.rv_walk.specs.Course.{four_of, steps_at}

-- the run is one whose harts are paused at sites that are drawn
abbrev pub is_sampled : Mix → ℕ → Bool
is_sampled Mixed run = run % 4 == 3
is_sampled Sampled run = true
is_sampled Walks run = false

-- The lengths go through all scales, by the number of a run's four, or of the run where all are sampled.
abbrev pub steps_of : Mix → ℕ → ℕ
steps_of Mixed run = steps_at (four_of run)
steps_of Sampled run = steps_at (run + 1)
steps_of Walks run = steps_at (four_of run)

-- 2, 4 and 8 by turns
abbrev pub harts_of : ℕ → ℕ
harts_of run = if run % 3 == 0 then 2 else (if run % 3 == 1 then 4 else 8)

-- the lengths of a run where none are given: a pause lasts a twentieth of the run
abbrev pub lengths_of : Mix → ℕ → Lengths
lengths_of mix run = record { steps = steps_of mix run; arms = 64; pause = steps_of mix run / 20 }

-- What is given of all plans: what the runs are, how many harts there are, if that is, how many slots, and the lengths, if they are.
pub record Given : Type 0 where
  pub mix : Mix
  pub harts : Option ℕ
  pub slots : ℕ
  pub lengths : Option Lengths

abbrev pub plan_with : Given → ℕ → Lengths → Numbers
plan_with given run lengths = record {
  harts = unwrap_or given.harts (harts_of run);
  steps = lengths.steps;
  arms = lengths.arms;
  pause = lengths.pause;
  slots = given.slots;
}

-- the plan of a run
unfoldable pub plan_of : Given → ℕ → Numbers
plan_of given run = plan_with given run (unwrap_or given.lengths (lengths_of given.mix run))

-- ---- what may be given

pub record AreLengths (l : Lengths) : Type 0 where
  pub some_step : 1 ≤ l.steps
  pub steps : l.steps ≤ MOST_STEPS
  pub arms : l.arms ≤ MOST_ARMS
  pub some_pause : 1 ≤ l.pause
  pub pause : l.pause ≤ MOST_PAUSE

abbrev pub IsHarts : ℕ → Type 0
IsHarts harts = (1 ≤ harts) × (harts ≤ MOST_HARTS)

pub record IsGiven (g : Given) : Type 0 where
  pub harts : IfSome g.harts IsHarts
  pub some_slot : 1 ≤ g.slots
  pub slots : g.slots ≤ MOST_SLOTS
  pub lengths : IfSome g.lengths AreLengths
