-- What a walk keeps beside its list, and how that follows from it.
use Rattle.std.specs.Prelude.{◌≡◌, ℕ, ◌+◌, ◌≤◌, Some, List, length, Vec, vec_capacity}
use Rattle.std.specs.List.{All}
use Rattle.std.specs.declared.alloc.Global.{Global}
use Rattle.rv_hart.specs.Run.{run}
use Rattle.rv_hart.specs.State.{Guest}
use Rattle.rv_waits.specs.Watch.{IsWatchOf}
use Rattle.rv_waits.specs.declared.watch.Anchor.{Anchor}
use Rattle.rv_walk.specs.NearPair.{IsNearPair, WasMade}
use Rattle.rv_walk.specs.Walked.{Walked}
use Rattle.rv_walk.specs.declared.accesses.Accesses.{Accesses}
use Rattle.rv_walk.specs.declared.accesses.Kept.{Kept}

-- each was made by the walk
abbrev pub AreMade : Walked → List Kept → Type 0
AreMade walk = All (λ (kept : Kept). WasMade walk kept.seen)

-- what is kept was made by the walk, and what is noted is a near pair of it
pub record AreOf (walk : Walked) (accesses : Accesses) : Type 0 where
  pub made : AreMade walk accesses.kept.items
  pub near : All (IsNearPair walk) accesses.closest

pub record IsInside (walk : Walked) (guest : Guest) (anchors : List Anchor) (harts : Vec ℕ Global) (accesses : Accesses) : Type 0 where
  pub reached : run walk.start walk.harts ≡ Some guest.state
  pub watched : IsWatchOf anchors guest.state
  pub few : length walk.harts ≤ walk.most
  pub room : walk.most ≤ vec_capacity harts
  pub prints : length guest.state.output + walk.most ≤ guest.limit + length walk.harts
  pub seen : AreOf walk accesses
