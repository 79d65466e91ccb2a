-- A run of a campaign: the schedule that its seed drives, and what it leaves.
use Rattle.std.specs.Prelude.{◌≡◌, ℕ, List, []}
use Rattle.rv_collide.specs.Answers.{IsOutput}
use Rattle.rv_drive.specs.Drawn.{IsDrawn}
use Rattle.rv_collide.specs.Numbers.{numbers}
use Rattle.rv_collide.specs.Plan.{Numbers}
use Rattle.rv_collide.specs.Stored.{setting_of, stored}
use Rattle.rv_collide.specs.Verdict.{endings}
use Rattle.rv_collide.specs.declared.collider.Finished.{Finished}
use Rattle.rv_elf.specs.Contents.{Contents}
pub use Rattle.rv_drive.specs.Sampling.{sampling_of}
use Rattle.rv_sample.specs.Sites.{sites}

-- What a campaign is made of: an image, a plan, a seed, and the addresses that are no sites.
pub record Hunt : Type 0 where
  pub image : Contents
  pub plan : Numbers
  pub seed : ℕ
  pub excluded : List ℕ

-- What a run over a list of sites leaves: the schedule that its words drive, the endings of its pauses, and the
-- bytes printed.
pub record IsRunOver (image : Contents) (plan : Numbers) (sites : List ℕ) (seed run : ℕ) (told : Finished) : Type 0 where
  pub plan_is : numbers told.plan ≡ plan
  pub drawn : IsDrawn (setting_of (stored image plan [])) (sampling_of sites seed run) told.entries.items
  pub endings_are : told.endings.items ≡ endings (setting_of (stored image plan [])).start told.entries.items
  pub output_is : IsOutput (stored image plan told.entries.items) told.output.items

-- what a run of the hunt leaves
abbrev pub IsRun : Hunt → ℕ → Finished → Type 0
IsRun hunt run told = IsRunOver hunt.image hunt.plan (sites hunt.image hunt.excluded) hunt.seed run told
