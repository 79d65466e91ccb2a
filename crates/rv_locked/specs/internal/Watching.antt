-- What the locked value keeps beside its core.
use Rattle.std.specs.Prelude.{◌≡◌, ℕ, List, []}
use Rattle.rv_drive.specs.Able.{IsLong}
use Rattle.rv_drive.specs.Draws.{IsArmedByDraws, is_resumed, next_index}
use Rattle.rv_collide.specs.Stored.{Stored, setting_of}
use Rattle.rv_elf.specs.Contents.{Contents}
use Rattle.rv_drive.specs.Sampling.{sampling}
use Rattle.rv_sample.specs.Sites.{sites}
use Rattle.rv_sample.specs.Generator.{Given}

pub record IsWatching (core : Stored) (among : List ℕ) (words : Given) (image : Contents) (seed : ℕ) : Type 0 where
  pub long : IsLong (setting_of core) core.entries
  pub arms : IsArmedByDraws (setting_of core) (sampling core.image seed) is_resumed core.entries
  pub sites_are : among ≡ sites core.image []
  pub words_are : words ≡ record { seed = seed; stream = 0; taken = next_index is_resumed core.entries }
  pub image_is : image ≡ core.image
