-- The words of `merge TABLE..`, with `--expect TABLE` or `--expect=TABLE` before the tables or behind them, and `--gaps` as the first word or the last.
use Rattle.std.specs.Prelude.{ℕ, ◌+◌, ◌==◌, ◌&&◌, Bool, false, nat_eq, nat_lt, if◌then◌else◌, List, [], ◌∷◌, drop, length, Option, Some, None, option_and_then, option_map, slice_get, codes}
use Rattle.std.specs.Option.{option_map_or}
use Rattle.std.specs.List.{starts_with}
use Rattle.std.specs.Str.{bytes_eq}
use Rattle.clap.specs.Words.{Text}

-- a hyphen (45) and a byte after it begin an option; a table with such a name is written with its folder
abbrev pub is_dashed : Text → Bool
is_dashed (byte ∷ next ∷ rest) = byte == 45
is_dashed _ = false

-- how many words stand before the first option
abbrev pub tables_before : List Text → ℕ
tables_before [] = 0
tables_before (word ∷ rest) = if is_dashed word then 0 else 1 + tables_before rest

-- the words are tables, one at least
abbrev pub are_tables : List Text → Bool
are_tables words = nat_lt 0 (length words) && (tables_before words == length words)

-- the value in a word `--expect=TABLE`
abbrev pub joined_value : Text → Option Text
joined_value word = if starts_with nat_eq word (codes "--expect=") then Some (drop (length (codes "--expect=")) word) else None

-- the value behind the word `--expect`, and the words after it
abbrev pub value_first : List Text → Option (Text × List Text)
value_first [] = None
value_first (value ∷ rest) = if is_dashed value then None else Some (value, rest)

-- the value of the option that begins the words, in either form, and the words behind it
abbrev pub expected_first : List Text → Option (Text × List Text)
expected_first [] = None
expected_first (option ∷ rest) = if bytes_eq option (codes "--expect") then value_first rest
    else option_map (λ value. (value, rest)) (joined_value option)

-- what is expected, by the words behind the tables: none, or the option alone
abbrev pub option_last : List Text → Option (Option Text)
option_last [] = Some None
option_last (option ∷ rest) = option_and_then (λ found. if length found.1 == 0 then Some (Some found.0) else None) (expected_first (option ∷ rest))

-- the word of that place is `--gaps`
abbrev pub gaps_at : ℕ → List Text → Bool
gaps_at place words = option_map_or (λ word. bytes_eq word (codes "--gaps")) (slice_get words place) false
