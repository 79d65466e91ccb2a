-- What a session is: an image, a plan, a stored schedule, and a place of it. What it shows follows from them.
use Rattle.std.specs.Prelude.{ℕ, Option, IsSomeAnd, List, []}
use Rattle.rv_collide.specs.Forced.{Setting}
use Rattle.rv_collide.specs.Plan.{Numbers}
use Rattle.rv_collide.specs.StateAt.{state_at}
use Rattle.rv_collide.specs.Stored.{setting_of, stored}
use Rattle.rv_collide.specs.declared.entry.Entry.{Entry}
use Rattle.rv_elf.specs.Contents.{Contents}
use Rattle.rv_hart.specs.State.{State}

-- Place n, from 0 to the number of entries, is the moment after the first n of them.
pub record Placed : Type 0 where
  pub image : Contents
  pub plan : Numbers
  pub entries : List Entry
  pub place : ℕ

abbrev pub placed : Contents → Numbers → List Entry → ℕ → Placed
placed image plan entries place = record { image = image; plan = plan; entries = entries; place = place }

-- the same session at another place
abbrev pub moved : Placed → ℕ → Placed
moved p place = record p { place = place }

-- the image's harts at their entry, and the plan
abbrev pub setting : Placed → Setting
setting p = setting_of (stored p.image p.plan [])

-- the state at the place: that of the first `place` entries
abbrev pub state : Placed → Option State
state p = state_at (setting p).start p.entries p.place

-- there is a state at the place, and it is so
abbrev pub SomeState : (State → Type 0) → Placed → Type 0
SomeState P p = IsSomeAnd (state p) P
