-- What is kept of a run.
use Rattle.std.specs.Prelude.{◌≡◌, ℕ, List, []}
use Rattle.rv_collide.specs.Plan.{Numbers}
use Rattle.rv_collide.specs.Stored.{Stored, setting_of, stored}
use Rattle.rv_drive.specs.Drawn.{IsDrawn}
use Rattle.rv_drive.specs.Sampling.{sampling_of}
use Rattle.rv_elf.specs.Contents.{Contents}

-- What runs are made of: an image, the sites at which their harts may be paused, and a seed.
pub record Source : Type 0 where
  pub image : Contents
  pub sites : List ℕ
  pub seed : ℕ

-- The core at the end of a run: its schedule is the one that the run's words drive.
pub record IsCoreOf (source : Source) (plan : Numbers) (run : ℕ) (core : Stored) : Type 0 where
  pub image_is : core.image ≡ source.image
  pub plan_is : core.plan ≡ plan
  pub drawn : IsDrawn (setting_of (stored source.image plan [])) (sampling_of source.sites source.seed run) core.entries

-- What is kept of a run is what may be kept of its core.
pub record IsKept {K : Type 0} (keeps : Stored → K → Type 0) (source : Source) (plan : Numbers) (run : ℕ) (kept : K) : Type 0 where
  pub core : Stored
  pub is_core : IsCoreOf source plan run core
  pub is_kept : keeps core kept
