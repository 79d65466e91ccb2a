-- The locked machine: a core that workers share, with the draws of a seed. What holds of it whenever the lock
-- is got, and what its calls answer.
use Rattle.std.specs.Prelude.{◌≡◌, ℕ, true, false, Bool, Option}
use Rattle.rv_collide.specs.Answers.{AreFacts, IsOutput, Resumes, Turns}
use Rattle.rv_collide.specs.Numbers.{numbers}
use Rattle.rv_collide.specs.Stored.{Stored, added, setting_of}
use Rattle.rv_collide.specs.Verdict.{endings}
use Rattle.rv_collide.specs.declared.collider.Finished.{Finished}
use Rattle.rv_collide.specs.declared.collider.Turned.TheVariants as turned
use Rattle.rv_collide.specs.declared.ending.Ending.{Ending}
use Rattle.rv_collide.specs.declared.entry.Entry.TheVariants as entry
use Rattle.rv_drive.specs.Able.{IsLong, is_able, is_due}
use Rattle.rv_drive.specs.Draws.{IsArmedByDraws, is_resumed, next_index}
use Rattle.rv_drive.specs.Sampling.{drew, sampling}
use Rattle.rv_locked.specs.declared.watched.Taken.{Taken}
use Rattle.rv_locked.specs.declared.watched.Taken.TheVariants.{Stepped, Paused, Over}

-- What the workers share: the core, the seed of its draws, and whether the run is broken off.
pub record Watch : Type 0 where
  pub core : Stored
  pub seed : ℕ
  pub broken_off : Bool

abbrev pub watch : Stored → ℕ → Bool → Watch
watch core seed broken_off = record { core = core; seed = seed; broken_off = broken_off }

-- What holds of it whenever the lock is got: its schedule is legal, no pause has ended before it was due, and
-- addresses are armed by draws alone, of which each resumption takes one word.
pub record IsHistory (w : Watch) : Type 0 where
  pub core : AreFacts w.core
  pub long : IsLong (setting_of w.core) w.core.entries
  pub arms : IsArmedByDraws (setting_of w.core) (sampling w.core.image w.seed) is_resumed w.core.entries

-- a hart's turn is the one that the core is forced to make; none where the hart is not able
abbrev pub Takes : Stored → Stored → ℕ → Taken → Type 0
Takes old new h (Stepped event) = Turns old new h (turned.Stepped event)
Takes old new h Paused = (slot : Option ℕ) × Turns old new h (turned.Paused slot)
Takes old new h Over = (is_able (setting_of old) old.entries h ≡ false) × (new ≡ old)

-- a pause that is due ends, and the draw of the next word follows
pub record Ends (old new : Stored) (seed h : ℕ) (told : Ending) : Type 0 where
  pub is_due : is_due (setting_of old) old.entries h ≡ true
  pub resumes : Resumes old (added old (entry.Resumed h)) h told
  pub draws : new ≡ drew (sampling old.image seed) (next_index is_resumed old.entries) (added old (entry.Resumed h))

-- what the core leaves: its plan, its schedule, the endings of its pauses, and the bytes printed
pub record IsLeft (core : Stored) (told : Finished) : Type 0 where
  pub plan_is : numbers told.plan ≡ core.plan
  pub entries_are : told.entries.items ≡ core.entries
  pub endings_are : told.endings.items ≡ endings (setting_of core).start core.entries
  pub output_is : IsOutput core told.output.items
