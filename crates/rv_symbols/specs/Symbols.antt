-- Which symbol of an image an address is told by.
use Rattle.std.specs.Prelude.{ℕ, ◌+◌, Bool, false, not, ◌&&◌, ◌||◌, ◌==◌, nat_le, nat_lt, if◌then◌else◌, Option, Some, None, option_and_then, List, [], ◌∷◌, filter, find}
use Rattle.std.specs.List.{fold}
use Rattle.rv_elf.specs.Contents.{Contents, Named}
use Rattle.rv_memory.specs.Extent.{Extent, end_of}

-- assemblers and compilers mark places by names that begin with `$` or `.L`
abbrev pub is_mark : List ℕ → Bool
is_mark (first ∷ second ∷ others) = (first == 36) || ((first == 46) && (second == 76))
is_mark (only ∷ []) = only == 36
is_mark [] = false

-- the symbol is data or a function, and not of no type
abbrev pub is_typed : Named → Bool
is_typed s = not (s.kind == 0)

abbrev pub has_size : Named → Bool
has_size s = nat_lt 0 s.size

-- ---- the symbol that goes before all others

-- the later of two is chosen only where it goes before the other
abbrev pub chosen : (Named → Named → Bool) → Option Named → Named → Option Named
chosen goes_before None s = Some s
chosen goes_before (Some best) s = Some (if goes_before s best then s else best)

-- the first of those that no other goes before
abbrev pub first_of : (Named → Named → Bool) → List Named → Option Named
first_of goes_before symbols = fold (chosen goes_before) None symbols

-- ---- a symbol that holds the address

abbrev pub holds : ℕ → Named → Bool
holds address s = not (is_mark s.name) && nat_le s.value address && nat_lt address (s.value + s.size)

-- both are typed or neither is, and the first begins later, or is shorter
abbrev pub is_inner : Named → Named → Bool
is_inner one other = nat_lt other.value one.value || (one.value == other.value && nat_lt one.size other.size)

-- Data and functions go before symbols of no type, so that a linker's marks don't hide a variable. Of these the inner
-- one goes before: the one with the greater value, then the one with the less size.
abbrev pub holds_closer : Named → Named → Bool
holds_closer one other =
    if is_typed one then (not (is_typed other) || is_inner one other) else (not (is_typed other) && is_inner one other)

unfoldable pub holder : Contents → ℕ → Option Named
holder image address = first_of holds_closer (filter (holds address) image.symbols)

-- ---- a label in front of the address

abbrev pub is_inside : ℕ → Extent → Bool
is_inside address segment = nat_le segment.start address && nat_lt address (end_of segment)

-- the symbol stands in the segment, at the address or below
abbrev pub is_below : ℕ → Extent → Named → Bool
is_below address segment s = not (is_mark s.name) && nat_le segment.start s.value && nat_le s.value address

-- at one place a symbol with a size goes before one without, and then one with a type before one without
abbrev pub is_preferred : Named → Named → Bool
is_preferred one other = if has_size one then not (has_size other) else (not (has_size other) && is_typed one && not (is_typed other))

-- of two symbols at or below an address the one that stands nearer to it
abbrev pub is_nearer : Named → Named → Bool
is_nearer one other = nat_lt other.value one.value || (one.value == other.value && is_preferred one other)

abbrev pub nearest : Contents → Extent → ℕ → Option Named
nearest image segment address = first_of is_nearer (filter (is_below address segment) image.symbols)

abbrev pub unless_sized : Named → Option Named
unless_sized s = if has_size s then None else Some s

-- The nearest symbol of the address's segment, where no symbol there has a size: such a one ends before the address.
-- (A start file's labels have no size.)
unfoldable pub label : Contents → ℕ → Option Named
label image address =
    option_and_then (λ segment. option_and_then unless_sized (nearest image segment address)) (find (is_inside address) image.segments)

-- ---- both

abbrev pub or_else : Option Named → Option Named → Option Named
or_else (Some s) other = Some s
or_else None other = other

-- The symbol of an address: one that holds it, or a label in front of it.
unfoldable pub symbol_of : Contents → ℕ → Option Named
symbol_of image address = or_else (holder image address) (label image address)
