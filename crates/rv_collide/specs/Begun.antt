-- What a detector is: the state that it began at, a plan, and the stored schedule of its calls. All else follows from them.
use Rattle.std.specs.Prelude.{List, [], ◌∷◌, ◌++◌}
use Rattle.rv_collide.specs.Forced.{Setting}
use Rattle.rv_collide.specs.Plan.{Numbers}
use Rattle.rv_collide.specs.Stored.{Stored, setting_of as image_setting}
use Rattle.rv_collide.specs.declared.entry.Entry.{Entry}
use Rattle.rv_hart.specs.State.{State}

pub record Begun : Type 0 where
  pub start : State
  pub plan : Numbers
  pub entries : List Entry

abbrev pub setting_of : Begun → Setting
setting_of b = record { start = b.start; plan = b.plan }

-- one more entry
abbrev pub added : Begun → Entry → Begun
added b entry = record b { entries = b.entries ++ entry ∷ [] }

abbrev pub begun : State → Numbers → List Entry → Begun
begun start plan entries = record { start = start; plan = plan; entries = entries }

-- what a core is, told from the state that its image's harts begin at
abbrev pub begun_of : Stored → Begun
begun_of c = begun (image_setting c).start c.plan c.entries
