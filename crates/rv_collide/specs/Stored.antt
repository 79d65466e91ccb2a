-- What a core is: an image, a plan, and the stored schedule. All else follows from them.
use Rattle.std.specs.Prelude.{List, [], ◌∷◌, ◌++◌}
use Rattle.rv_collide.specs.Forced.{Setting}
use Rattle.rv_collide.specs.Plan.{Numbers}
use Rattle.rv_collide.specs.declared.entry.Entry.{Entry}
use Rattle.rv_elf.specs.Contents.{Contents}
use Rattle.rv_hart.specs.State.{start}

pub record Stored : Type 0 where
  pub image : Contents
  pub plan : Numbers
  pub entries : List Entry

-- the image's harts at their entry, and the plan
abbrev pub setting_of : Stored → Setting
setting_of s = record { start = start s.image.segments s.image.entry s.plan.harts; plan = s.plan }

-- one more entry
abbrev pub added : Stored → Entry → Stored
added s entry = record s { entries = s.entries ++ entry ∷ [] }

abbrev pub stored : Contents → Numbers → List Entry → Stored
stored image plan entries = record { image = image; plan = plan; entries = entries }
