-- The walk of a run, while its probes are made.
use Rattle.std.specs.Prelude.{◌≡◌, ℕ, ◌≤◌, Some, length}
use Rattle.rv_hart.specs.Run.{run}
use Rattle.rv_hart.specs.State.{Guest, State, start as first_state}
use Rattle.rv_search.specs.Hunt.{Hunt, IsWalkOf}
use Rattle.rv_search.specs.declared.run_walk.RunWalk.{RunWalk}
use Rattle.rv_plans.specs.Plans.{plan_of}
use Rattle.rv_walk.specs.Told.{AreTold}
use Rattle.rv_walk.specs.Walked.{Walked}
use Rattle.rv_walk.specs.declared.course.TheConstants.{MOST_WALKED}

-- what a walk that is over leaves
pub record IsLeftBy (walk : Walked) (made : RunWalk) : Type 0 where
  pub harts_are : made.left.harts.items ≡ walk.harts
  pub few : length walk.harts ≤ walk.most
  pub are_told : AreTold walk made.left.pairs.items
  pub reached : (end : State) × (run walk.start walk.harts ≡ Some end)

-- it is the walk of the run of that number
pub record IsRunWalk (hunt : Hunt) (run : ℕ) (made : RunWalk) : Type 0 where
  pub walk : Walked
  pub is_walk : IsWalkOf hunt run walk
  pub few : walk.most ≡ MOST_WALKED
  pub left : IsLeftBy walk made

-- a machine as the walk of the run of that number begins, with room to print a byte at each step
pub record IsBegin (hunt : Hunt) (run : ℕ) (machine : Guest) : Type 0 where
  pub state_is : machine.state ≡ first_state hunt.source.image.segments hunt.source.image.entry (plan_of hunt.given run).harts
  pub limit_is : machine.limit ≡ MOST_WALKED

-- the probes of the same walk
pub record AreProbesOf (hunt : Hunt) (run : ℕ) (made : RunWalk) (probes : Walked) : Type 0 where
  pub is_walk : IsWalkOf hunt run probes
  pub harts_are : probes.harts ≡ made.left.harts.items
