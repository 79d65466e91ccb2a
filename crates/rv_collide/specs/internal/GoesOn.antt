-- A turn that only a hart's number or its end can keep from being a step.
use Rattle.std.specs.Prelude.{◌≡◌, ℕ, nat_lt, is_some, true, false, length}
use Rattle.rv_collide.specs.Entries.{steps}
use Rattle.rv_collide.specs.Forced.{turn_entry}
use Rattle.rv_collide.specs.Next.{plain}
use Rattle.rv_collide.specs.Pause.{opening_of}
use Rattle.rv_collide.specs.Begun.{Begun, setting_of}
use Rattle.rv_collide.specs.declared.entry.Entry.TheVariants.{Stepped}

-- steps are left, the hart is not paused, and a turn of it would not pause it
pub record GoesOn (c : Begun) (h : ℕ) : Type 0 where
  pub free : is_some (opening_of c.entries h) ≡ false
  pub left : nat_lt (length (steps c.entries)) c.plan.steps ≡ true
  pub passes : turn_entry (setting_of c) c.entries h (plain (setting_of c).start c.entries (length c.entries) h) ≡ Stepped h
