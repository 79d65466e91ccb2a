-- Near pairs: accesses of two harts that conflict, and that a walk made soon after one another.
use Rattle.std.specs.Prelude.{◌≡◌, ◌≢◌, ℕ, ◌+◌, ◌<◌, ◌≤◌, ◌⊎◌, Some, List}
use Rattle.std.specs.List.{Contains}
use Rattle.rv_break.specs.declared.claim.Seen.{Seen}
use Rattle.rv_collide.specs.Entries.{stepped_at}
use Rattle.rv_collide.specs.Made.{made}
use Rattle.rv_hart.specs.Conflict.{Conflict}
use Rattle.rv_walk.specs.Walked.{Walked, entries_of}
use Rattle.rv_walk.specs.declared.near_pair.NearPair.{NearPair}
use Rattle.rv_walk.specs.declared.near_pair.TheConstants.{FAR}

-- in the walk, the hart's step at the place made the access
pub record WasMade (walk : Walked) (seen : Seen) : Type 0 where
  pub stepped : stepped_at (entries_of walk.harts) seen.place ≡ Some seen.hart
  pub accessed : made walk.start (entries_of walk.harts) seen.place ≡ Some seen.access

-- Of two accesses of different harts that conflict, the second was made at most FAR steps after the first, and one is that of a
-- site.
pub record AreNear (sites : List ℕ) (first second : Seen) : Type 0 where
  pub later : first.place < second.place
  pub soon : second.place ≤ first.place + FAR
  pub apart : first.hart ≢ second.hart
  pub conflict : Conflict first.access second.access
  pub at_site : Contains sites first.access.pc ⊎ Contains sites second.access.pc

pub record IsNearPair (walk : Walked) (pair : NearPair) : Type 0 where
  pub first : WasMade walk pair.first
  pub second : WasMade walk pair.second
  pub near : AreNear walk.sites pair.first pair.second
