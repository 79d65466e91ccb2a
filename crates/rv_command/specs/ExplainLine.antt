-- The options of `explain`: the number that each value means, and its range.
use Rattle.std.specs.Prelude.{ℕ, List, Option, Some, None, option_and_then, option_map, codes}
use Rattle.clap.specs.Words.{Row, Text, first_of}
use Rattle.rv_engines.specs.Asking.{Asking}
use Rattle.rv_command.specs.Values.{number_if, number_or}
use Rattle.rv_command.specs.declared.command.explain.TheConstants.{DEFAULT_AROUND, MOST_AROUND, MOST_AROUND_IN_PICTURE, MOST_RACE}

-- the most entries around a place, by whether a picture is wanted, which shows them all
abbrev pub most_around : Option Text → ℕ
most_around None = MOST_AROUND
most_around (Some path) = MOST_AROUND_IN_PICTURE

abbrev pub asking_at : List Row → Option Asking
asking_at rows =
    option_and_then (λ around. option_map (λ race. record { named = first_of (codes "named") rows; around = around; race = race })
    (number_if (codes "race") 1 MOST_RACE rows))
    (number_or DEFAULT_AROUND (codes "around") 0 (most_around (first_of (codes "picture") rows)) rows)
