-- What a walk that is gone over again keeps beside its list.
use Rattle.std.specs.Prelude.{◌≡◌, ◌+◌, ◌≤◌, Some, length, take}
use Rattle.rv_hart.specs.Run.{run}
use Rattle.rv_hart.specs.State.{Guest}
use Rattle.rv_walk.specs.Again.{Gone}

pub record IsGoing (gone : Gone) (guest : Guest) : Type 0 where
  pub within : gone.place ≤ length gone.harts
  pub reached : run gone.start (take gone.place gone.harts) ≡ Some guest.state
  pub count : length guest.state.harts ≡ length gone.start.harts
  pub printed : length guest.state.output ≤ length gone.start.output + gone.place
  pub prints : length gone.start.output + length gone.harts ≤ guest.limit
