-- What a driver keeps beside its core: the steps made, for each hart how many were made when it was paused, the able
-- harts, and before how many steps no pause has lasted.
use Rattle.std.specs.Prelude.{◌≡◌, true, ℕ, ◌+◌, ◌-◌, ◌^◌, ◌<◌, ◌≤◌, Some, None, List, filter, length, slice_index, vec_capacity}
use Rattle.std.specs.List.{range_with_len}
use Rattle.rv_drive.specs.declared.ahead.Ahead.{Ahead}
use Rattle.rv_hart.specs.declared.machine.TheConstants.{MOST_HARTS}
use Rattle.rv_drive.specs.Able.{able, due, is_able, others_steps}
use Rattle.rv_drive.specs.Drawn.{picked_hart}
use Rattle.rv_drive.specs.Turns.{TakesTurns}
use Rattle.rv_collide.specs.Answers.{Adds, MayPause}
use Rattle.rv_collide.specs.Entries.{steps}
use Rattle.rv_collide.specs.Forced.{Setting, Turn}
use Rattle.rv_collide.specs.Pause.{Opening, opening_of}
use Rattle.rv_collide.specs.Stored.{Stored, setting_of}
use Rattle.rv_collide.specs.declared.entry.Entry.{Entry}
use Rattle.rv_collide.specs.declared.entry.Entry.TheVariants.{Stepped}
use Rattle.rv_sample.specs.Generator.{Given, word_at}

pub record IsKept (entries : List Entry) (made : ℕ) (made_at : List ℕ) : Type 0 where
  pub made_is : made ≡ length (steps entries)
  pub harts : length made_at ≡ MOST_HARTS
  pub since : (hart : ℕ) (o : Opening) → opening_of entries hart ≡ Some o → others_steps entries o + slice_index made_at hart ≡ made

-- no open pause has lasted as long as the plan wants before so many steps are made
abbrev pub NoneLasts : Setting → List Entry → List ℕ → ℕ → Type 0
NoneLasts setting entries made_at earliest =
    (hart : ℕ) (o : Opening) → hart < setting.plan.harts → opening_of entries hart ≡ Some o → earliest ≤ slice_index made_at hart + setting.plan.pause

pub record IsAhead (d : Ahead) : Type 0 where
  pub kept : IsKept d.collider.entries d.made d.made_at
  pub able_are : d.able.items ≡ able (setting_of d.collider) d.collider.entries
  pub lasts : NoneLasts (setting_of d.collider) d.collider.entries d.made_at d.earliest
  pub room : MOST_HARTS ≤ vec_capacity d.able

-- of the harts below one it is noted which are able, and before how many steps none of their pauses has lasted
pub record IsNoted (d : Ahead) (h : ℕ) : Type 0 where
  pub kept : IsKept d.collider.entries d.made d.made_at
  pub found : d.able.items ≡ filter (is_able (setting_of d.collider) d.collider.entries) (range_with_len 0 h)
  pub lasts : (hart : ℕ) (o : Opening) → hart < h → opening_of d.collider.entries hart ≡ Some o → d.earliest ≤ slice_index d.made_at hart + d.collider.plan.pause
  pub room : MOST_HARTS ≤ vec_capacity d.able

-- A row of turns so far: `before` it stood `old`. The last word has picked the next turn's hart, and after so many steps
-- more no pause is due yet and steps are left.
pub record IsInRow (old : Stored) (before : Given) (d : Ahead) (words : Given) (hart left : ℕ) : Type 0 where
  pub ahead : IsAhead d
  pub some : 0 < length d.able.items
  pub undue : due (setting_of d.collider) d.collider.entries ≡ None
  pub so_far : TakesTurns old d.collider (word_at before.seed before.stream) before.taken (words.taken - 1)
  pub picked : picked_hart (setting_of d.collider) d.collider.entries (word_at before.seed before.stream (words.taken - 1)) ≡ Some hart
  pub pauses : 0 < left → d.made + left < d.earliest
  pub steps : 0 < left → d.made + left < d.collider.plan.steps
  pub words_are : words ≡ record before { taken = words.taken }
  pub later : before.taken < words.taken
  pub few : words.taken + left ≤ before.taken + 2 ^ 32

-- a step of an able hart, after which the same harts are able
pub record StaysAhead (old new : Ahead) (h : ℕ) : Type 0 where
  pub ahead : IsAhead new
  pub adds : Adds old.collider new.collider (Turn h) (Stepped h)
  pub one_more : new.made ≡ old.made + 1
  pub same_end : new.earliest ≡ old.earliest
  pub same_able : new.able.items ≡ old.able.items

-- no step was made of hart h: it may have been paused, and nothing else has changed
pub record IsUnstepped (old new : Ahead) (h : ℕ) : Type 0 where
  pub same_rest : new ≡ record old { collider = new.collider }
  pub may_pause : MayPause old.collider new.collider h

-- a turn of an able hart is owed, of which no step was made
pub record IsOwed (e : Ahead) (h : ℕ) : Type 0 where
  pub before : Ahead
  pub ahead : IsAhead before
  pub within : h < before.collider.plan.harts
  pub is_able : is_able (setting_of before.collider) before.collider.entries h ≡ true
  pub unstepped : IsUnstepped before e h

-- a turn of hart h was taken, whatever it was
pub record IsTurnOf (old new : Stored) (h : ℕ) : Type 0 where
  pub entry : Entry
  pub adds : Adds old new (Turn h) entry

-- the turn that was owed is taken now
abbrev pub AddsTurn : Ahead → Ahead → ℕ → Type 0
AddsTurn e new h = (before : Ahead) → IsUnstepped before e h → IsTurnOf before.collider new.collider h
