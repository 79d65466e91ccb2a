use Rattle.std.specs.Prelude.{◌≡◌, ℕ, ◌+◌, ◌⊎◌, ◌||◌, Bool, true, false, Option}
use Rattle.rv_hart.specs.declared.access.Access.{Access}
use Rattle.rv_hart.specs.declared.hart.Hart.{Hart}
use Rattle.rv_waits.specs.Touched.{covers}
use Rattle.rv_waits.specs.Touches.{is_among, is_read}
use Rattle.rv_waits.specs.declared.watch.Anchor.{Anchor}
use Rattle.rv_waits.specs.internal.Added.{IsAdded}

-- an anchor of the hart as it is
pub record IsNew (now : Hart) (anchor : Anchor) : Type 0 where
  pub hart : anchor.hart ≡ now
  pub steps : anchor.steps ≡ 0
  pub polls : anchor.seen.polls ≡ false

-- the anchor, which is set, with one more step
pub record IsOneMore (old new : Anchor) (pc : ℕ) (made : Option Access) : Type 0 where
  pub was_set : old.is_set ≡ true
  pub hart : new.hart ≡ old.hart
  pub steps : new.steps ≡ old.steps + 1
  pub touched : IsAdded old.seen.touched new.seen.touched pc made
  pub polls : new.seen.polls ≡ (old.seen.polls || is_read made)

-- the anchor is set anew, it is not set, or it has one more step
abbrev pub IsGoneOn : Anchor → Hart → ℕ → Option Access → Anchor → Type 0
IsGoneOn old now pc access new = IsNew now new ⊎ (new.is_set ≡ false) ⊎ IsOneMore old new pc access

-- the anchor as it was, where the step is another hart's, and none of the bytes that it may have written was touched since
pub record IsKept (old new : Anchor) (is_own : Bool) (first size : ℕ) : Type 0 where
  pub same : new ≡ old
  pub other : is_own ≡ false
  pub apart : (address : ℕ) → is_among first size address ≡ true → covers old.seen.touched address ≡ false

-- the anchor is not set, or is kept
abbrev pub IsLooked : Anchor → Bool → ℕ → ℕ → Anchor → Type 0
IsLooked old is_own first size new = (new.is_set ≡ false) ⊎ IsKept old new is_own first size
