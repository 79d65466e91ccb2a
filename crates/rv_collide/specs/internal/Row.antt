-- Steps that are told again in a row.
use Rattle.std.specs.Prelude.{◌≡◌, ℕ, ◌+◌, ◌<◌, ◌≤◌, Bool, true, false, is_some, List, length, slice_index_or, take}
use Rattle.rv_collide.specs.Detected.{IsFree, StepsOn}
use Rattle.rv_collide.specs.Entries.{steps}
use Rattle.rv_collide.specs.Next.{runs_at}
use Rattle.rv_collide.specs.Pause.{opening_of}
use Rattle.rv_collide.specs.Begun.{Begun, setting_of, begun}
use Rattle.rv_collide.specs.declared.entry.Entry.{Entry}
use Rattle.rv_collide.specs.declared.entry.Entry.TheVariants.{Stepped}

-- a hart that runs and is not paused
pub record IsAble (c : Begun) (h : ℕ) : Type 0 where
  pub within : h < c.plan.harts
  pub runs : runs_at (setting_of c).start c.entries (length c.entries) h ≡ true
  pub free : is_some (opening_of c.entries h) ≡ false

-- each hart that is marked is able
abbrev pub AreAble : Begun → List Bool → Type 0
AreAble c marks = (h : ℕ) → slice_index_or marks h false ≡ true → IsAble c h

-- the entry is the step that was made
pub record StepsAgain (old new : Begun) (entry : Entry) : Type 0 where
  pub hart : ℕ
  pub entry_is : entry ≡ Stepped hart
  pub steps : StepsOn old new hart

-- A row of steps so far: before it stood `old`. The entries before the place were told, and as many steps are left as
-- there are places up to the end.
pub record IsInRow (old now : Begun) (entries : List Entry) (marks : List Bool) (is_watched : Bool) (place end : ℕ) : Type 0 where
  pub told : now ≡ begun old.start old.plan (take place entries)
  pub left : length (steps now.entries) + end ≤ now.plan.steps + place
  pub able : AreAble now marks
  pub free : is_watched ≡ false → IsFree now
