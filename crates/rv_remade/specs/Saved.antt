-- Schedules that are saved in a folder.
use Rattle.std.specs.Prelude.{◌≡◌, ℕ, Bool, false, IfSome, List, Option}

-- the folder's file of that number has these bytes, unless making a file has failed
abbrev pub IfKept : {D : Type 0} → (D → Bool) → (D → ℕ → List ℕ → Type 0) → D → ℕ → List ℕ → Type 0
IfKept has_failed Holds folder number bytes = has_failed folder ≡ false → Holds folder number bytes

-- the same where a folder is given
abbrev pub IfSaved : {D : Type 0} → (D → Bool) → (D → ℕ → List ℕ → Type 0) → Option D → ℕ → List ℕ → Type 0
IfSaved has_failed Holds folder number bytes = IfSome folder (λ made. IfKept has_failed Holds made number bytes)
