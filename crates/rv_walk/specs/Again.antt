-- A walk that is gone over again, and the forks on its way.
use Rattle.std.specs.Prelude.{◌≡◌, ℕ, Some, List, [], take}
use Rattle.rv_collide.specs.Begun.{Begun}
use Rattle.rv_collide.specs.Plan.{Numbers}
use Rattle.rv_hart.specs.Run.{run}
use Rattle.rv_hart.specs.State.{State}

-- the state that a walk began at, its harts in their order, and how many of them have stepped again
pub record Gone : Type 0 where
  pub start : State
  pub harts : List ℕ
  pub place : ℕ

-- a detector at the state that the walk's steps before the place lead to, with no entry yet
pub record IsForkAt (start : State) (harts : List ℕ) (place : ℕ) (plan : Numbers) (fork : Begun) : Type 0 where
  pub at : run start (take place harts) ≡ Some fork.start
  pub plan_is : fork.plan ≡ plan
  pub none_yet : fork.entries ≡ []
