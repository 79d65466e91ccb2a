-- What the value of an option means, in what `clap` finds: a number in its range, a text, or a flag.
use Rattle.std.specs.Prelude.{ℕ, Bool, false, nat_le, Option, Some, None, option_and_then, option_map, unwrap_or, List, codes, if◌then◌else◌}
use Rattle.std.specs.Option.{option_map_or}
use Rattle.std.specs.Str.{bytes_eq}
use Rattle.clap.specs.Words.{Row, Text, first_of}
use Rattle.rv_text.specs.Numeral.{number_of, up_to}

-- the number that a text writes in decimal digits, if it lies in the range
abbrev pub number_in : ℕ → ℕ → Text → Option ℕ
number_in least most text = option_and_then (λ n. if nat_le least n then Some n else None) (up_to most (number_of 10 text))

-- the number of an option that has to be given
abbrev pub number_at : Text → ℕ → ℕ → List Row → Option ℕ
number_at name least most rows = option_and_then (number_in least most) (first_of name rows)

-- what the value of an option means that may be left out
abbrev pub if_given : {X : Type 0} → (Text → Option X) → Option Text → Option (Option X)
if_given meaning None = Some None
if_given meaning (Some text) = option_map (λ x. Some x) (meaning text)

-- the number of an option that may be left out
abbrev pub number_if : Text → ℕ → ℕ → List Row → Option (Option ℕ)
number_if name least most rows = if_given (number_in least most) (first_of name rows)

-- the same, with a default
abbrev pub number_or : ℕ → Text → ℕ → ℕ → List Row → Option ℕ
number_or default name least most rows = option_map (λ given. unwrap_or given default) (number_if name least most rows)

-- `clap` gives a flag the value `true` where it stands, and else `false`
abbrev pub flag_at : Text → List Row → Bool
flag_at name rows = option_map_or (λ text. bytes_eq text (codes "true")) (first_of name rows) false
