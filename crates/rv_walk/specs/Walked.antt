-- A walk: a run without pauses, as contracts see it.
use Rattle.std.specs.Prelude.{◌≡◌, ℕ, Some, List, ◌++◌, length, map}
use Rattle.rv_collide.specs.StateAt.{state_at}
use Rattle.rv_collide.specs.declared.entry.Entry.{Entry}
use Rattle.rv_collide.specs.declared.entry.Entry.TheVariants.{Stepped}
use Rattle.rv_hart.specs.State.{State}

-- A walk: the state that it began at, the harts that stepped since, in their order, how many steps it may have, and the sites
-- by which its near pairs are told. All else follows from the first two.
pub record Walked : Type 0 where
  pub start : State
  pub harts : List ℕ
  pub most : ℕ
  pub sites : List ℕ

-- the schedule of the harts' steps: no pauses, and nothing armed
abbrev pub entries_of : List ℕ → List Entry
entries_of harts = map Stepped harts

-- the state that the walk's steps lead to
unfoldable pub IsAt : Walked → State → Type 0
IsAt walk state = state_at walk.start (entries_of walk.harts) (length walk.harts) ≡ Some state

-- the walk has gone on by some steps
pub record GoesOn (old new : Walked) : Type 0 where
  pub steps : List ℕ
  pub are_added : new ≡ record old { harts = old.harts ++ steps }
