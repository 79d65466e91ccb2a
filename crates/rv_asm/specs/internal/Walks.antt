-- The addresses of a section's labels, from the last label on.
use Rattle.std.specs.Prelude.{◌≡◌, ℕ, ◌≤◌, nat_lt, min, if◌then◌else◌, List, [], ◌∷◌}
use Rattle.rv_asm.specs.Assembled.{Ends, end_in, is_same, next_address}
use Rattle.rv_asm.specs.declared.passes.place.Label.{Label}
use Rattle.rv_asm.specs.declared.passes.place.Spot.{Spot}
use Rattle.rv_asm.specs.declared.passes.symbols.Walk.{Walk}
use Rattle.rv_asm.specs.declared.passes.symbols.Walks.{Walks}
use Rattle.rv_asm.specs.declared.statement.Section.{Section}
use Rattle.rv_asm.specs.declared.statement.Section.TheVariants.{Text, Data}

-- the least address of a label in the section, or else the section's end
unfoldable pub least_address : Section → ℕ → List Label → ℕ
least_address section end [] = end
least_address section end (label ∷ labels) =
    if is_same section label.spot.section then min label.spot.address (least_address section end labels) else least_address section end labels

-- no label of a section stands above a later one, or past the section's end
unfoldable pub IsAscending : Ends → List Label → Type 0
IsAscending ends [] = Unit {0}
IsAscending ends (label ∷ labels) =
    (label.spot.address ≤ least_address label.spot.section (end_in ends label.spot.section) labels) × IsAscending ends labels

-- a walk with a label at this address, which is not above those so far
abbrev pub at_label : Walk → ℕ → Walk
at_label walk address = if nat_lt address walk.next then record { next = address; after = walk.next } else walk

abbrev pub walk_in : Section → Walks → Walk
walk_in Text walks = walks.text
walk_in Data walks = walks.writable

abbrev pub walked_in : Section → ℕ → Walks → Walks
walked_in Text address walks = record walks { text = at_label walks.text address }
walked_in Data address walks = record walks { writable = at_label walks.writable address }

-- the walks with one label more
abbrev pub walked : Walks → Spot → Walks
walked walks spot = walked_in spot.section spot.address walks

-- the least address of the labels so far, and the least above it
pub record IsWalk (section : Section) (end : ℕ) (labels : List Label) (walk : Walk) : Type 0 where
  pub next_is : walk.next ≡ least_address section end labels
  pub after_is : walk.after ≡ next_address section walk.next end labels

pub record AreWalks (ends : Ends) (labels : List Label) (walks : Walks) : Type 0 where
  pub each : (section : Section) → IsWalk section (end_in ends section) labels (walk_in section walks)
