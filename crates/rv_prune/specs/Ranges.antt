-- The bytes that names stand for.
use Rattle.std.specs.Prelude.{ℕ, ◌+◌, ◌&&◌, nat_le, nat_lt, max, not, Bool, List, map, filter, position, Option}
use Rattle.std.specs.List.{flat_map, list_any}
use Rattle.std.specs.Str.{bytes_eq}
use Rattle.rv_elf.specs.Contents.{Contents, Named}

abbrev pub has_name : List ℕ → Named → Bool
has_name name symbol = bytes_eq symbol.name name

abbrev pub is_known : Contents → List ℕ → Bool
is_known image name = list_any (has_name name) image.symbols

abbrev pub is_unknown : Contents → List ℕ → Bool
is_unknown image name = not (is_known image name)

-- the address of its first byte, and its size, which is counted as 1 where it is 0
abbrev pub range_of : Named → ℕ × ℕ
range_of symbol = (symbol.value, max symbol.size 1)

-- those of all symbols of a name, in the image's order
abbrev pub named_ranges : Contents → List ℕ → List (ℕ × ℕ)
named_ranges image name = map range_of (filter (has_name name) image.symbols)

-- the first name without a symbol
unfoldable pub unknown : Contents → List (List ℕ) → Option ℕ
unknown image names = position (is_unknown image) names

-- the ranges of each name, in the order of the names
unfoldable pub ranges : Contents → List (List ℕ) → List (ℕ × ℕ)
ranges image names = flat_map (named_ranges image) names

-- the byte at the address is in the range
abbrev pub has_at : ℕ → ℕ × ℕ → Bool
has_at address range = nat_le range.0 address && nat_lt address (range.0 + range.1)
