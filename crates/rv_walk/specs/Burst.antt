-- How long a turn of a walk goes on. Whose it is next is as `Turn` of `rv_waits` has it.
use Rattle.std.specs.Prelude.{◌≡◌, ℕ, ◌≤◌, ◌++◌, replicate}
pub use Rattle.rv_waits.specs.Turn.{AllMayRest, IsNextFrom, MayRest}
use Rattle.rv_walk.specs.Walked.{Walked}

-- the walk with so many more steps of hart h
abbrev pub longer : Walked → ℕ → ℕ → Walked
longer walk h turns = record walk { harts = walk.harts ++ replicate turns h }

-- some steps of hart h were made, no more than so many, and none maybe
pub record IsShortened (old new : Walked) (h most : ℕ) : Type 0 where
  pub turns : ℕ
  pub within : turns ≤ most
  pub walk : new ≡ longer old h turns
