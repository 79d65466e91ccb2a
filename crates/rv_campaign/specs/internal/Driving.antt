-- How far a seeded run has come.
use Rattle.std.specs.Prelude.{◌≡◌, ℕ, ◌<◌, None, List, length, slice_get, take}
use Rattle.rv_drive.specs.Drawn.{driven, turns_and_resumptions}
use Rattle.rv_drive.specs.Draws.{Sampling, next_index, owed}
use Rattle.rv_collide.specs.Forced.{Setting}
use Rattle.rv_collide.specs.Stored.{Stored}
use Rattle.rv_sample.specs.Generator.{Given}
use Rattle.rv_collide.specs.declared.entry.Entry.{Entry}

-- each entry so far is what the run adds at its place, its draws have been made, and so many words are taken
pub record IsDriving (setting : Setting) (sampling : Sampling) (entries : List Entry) (taken : ℕ) : Type 0 where
  pub so_far : (place : ℕ) → place < length entries → slice_get entries place ≡ driven setting sampling (take place entries)
  pub paid : owed setting sampling turns_and_resumptions entries ≡ None
  pub taken_are : taken ≡ next_index turns_and_resumptions entries

-- the same image and plan, and words of the same generator
pub record SameRun (old new : Stored) (before after : Given) : Type 0 where
  pub image : new.image ≡ old.image
  pub plan : new.plan ≡ old.plan
  pub seed : after.seed ≡ before.seed
  pub stream : after.stream ≡ before.stream
