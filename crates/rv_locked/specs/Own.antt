-- What a worker's record of places has to be, so that the whole schedule holds what the workers did, and no
-- more.
use Rattle.std.specs.Prelude.{◌≡◌, ℕ, ◌<◌, ◌==◌, ◌⊎◌, Bool, false, is_some, Some, List, filter, slice_get}
use Rattle.std.specs.Option.{option_map_or}
use Rattle.rv_drive.specs.Able.{is_able}
use Rattle.rv_collide.specs.Entries.{places}
use Rattle.rv_collide.specs.Pause.{opening_of}
use Rattle.rv_collide.specs.Plan.{Numbers}
use Rattle.rv_collide.specs.Stored.{Stored, setting_of}
use Rattle.rv_collide.specs.declared.entry.Entry.{Entry}
use Rattle.rv_collide.specs.declared.entry.Entry.TheVariants.{Stepped, Paused, Resumed, Armed, Disarmed}
use Rattle.rv_elf.specs.Contents.{Contents}
use Rattle.rv_locked.specs.Watched.{Watch}

-- the entry is a turn of the hart, or the end of its pause
abbrev pub is_of : ℕ → Entry → Bool
is_of hart (Stepped other) = other == hart
is_of hart (Paused other slot) = other == hart
is_of hart (Resumed other) = other == hart
is_of hart (Armed address) = false
is_of hart (Disarmed address) = false

abbrev pub is_own_place : List Entry → ℕ → ℕ → Bool
is_own_place entries hart place = option_map_or (is_of hart) (slice_get entries place) false

-- the places of a hart's own entries, in ascending order, each once
unfoldable pub own_places : List Entry → ℕ → List ℕ
own_places entries hart = filter (is_own_place entries hart) (places entries)

-- The places are those of the hart's own entries, and at the schedule's end the hart is neither paused nor
-- able.
pub record IsOwn (core : Stored) (hart : ℕ) (places : List ℕ) : Type 0 where
  pub places_are : places ≡ own_places core.entries hart
  pub not_open : is_some (opening_of core.entries hart) ≡ false
  pub not_able : is_able (setting_of core) core.entries hart ≡ false

-- the copies that the value carries are these
pub record AreCopies (w : Watch) (image : Contents) (plan : Numbers) (seed : ℕ) : Type 0 where
  pub image_is : w.core.image ≡ image
  pub plan_is : w.core.plan ≡ plan
  pub seed_is : w.seed ≡ seed

-- each hart's list is its own
abbrev pub AreOwn : Stored → List (List ℕ) → Type 0
AreOwn core lists = (hart : ℕ) (list : List ℕ) → slice_get lists hart ≡ Some list → IsOwn core hart list

-- the least hart whose list is not its own
pub record IsLeastStray (core : Stored) (lists : List (List ℕ)) (hart : ℕ) : Type 0 where
  pub list : List ℕ
  pub is_there : slice_get lists hart ≡ Some list
  pub fails : IsOwn core hart list → ⊥
  pub least : (other : ℕ) (list : List ℕ) → other < hart → slice_get lists other ≡ Some list → IsOwn core other list

-- The hart that is told where a copy or a list fails: hart 0 where a copy differs, else the least hart whose
-- list is not its own.
abbrev pub IsStray : Watch → Contents → Numbers → ℕ → List (List ℕ) → ℕ → Type 0
IsStray w image plan seed lists hart =
    ((AreCopies w image plan seed → ⊥) × (hart ≡ 0)) ⊎ (AreCopies w image plan seed × IsLeastStray w.core lists hart)
