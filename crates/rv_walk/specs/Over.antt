-- How a walk is over.
use Rattle.std.specs.Prelude.{◌≡◌, ℕ, length}
use Rattle.rv_hart.specs.State.{State}
use Rattle.rv_waits.specs.Stuck.{IsStuck, Runs}
use Rattle.rv_walk.specs.NearPair.{IsNearPair}
use Rattle.rv_walk.specs.Walked.{Walked}
use Rattle.rv_walk.specs.declared.course.Over.{Over}
use Rattle.rv_walk.specs.declared.course.Over.TheVariants.{NoneRuns, AllWait, MostSteps, FarEnough}
use Rattle.rv_walk.specs.declared.near_pair.NearPair.{NearPair}

-- no hart runs
abbrev pub NoHartRuns : State → Type 0
NoHartRuns s = (h : ℕ) → ¬ Runs s h

-- No hart runs; all that run wait, so that nothing ever changes; the steps that it may have are made; or it has gone far
-- enough, which takes a near pair.
abbrev pub IsOver : Walked → State → Over → Type 0
IsOver walk state NoneRuns = NoHartRuns state
IsOver walk state AllWait = IsStuck state
IsOver walk state MostSteps = length walk.harts ≡ walk.most
IsOver walk state FarEnough = (pair : NearPair) × IsNearPair walk pair
