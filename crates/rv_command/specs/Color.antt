-- What a line of words says of colours, and which words it keeps: `--color VALUE` or `--color=VALUE`, anywhere before a word `--`. The last value
-- holds. A value that names no colour is refused, the first such value where there are several.
use Rattle.std.specs.Prelude.{◌≡◌, ⊤, List, [], ◌∷◌, ◌++◌, drop, length, Result, Ok, Err, codes, nat_eq, if◌then◌else◌}
use Rattle.std.specs.List.{starts_with}
use Rattle.std.specs.Str.{bytes_eq}
use Rattle.clap.specs.Words.{Text}
use Rattle.rv_command.specs.declared.color.Color.{Color}
use Rattle.rv_command.specs.declared.color.Color.TheVariants.{Always, Auto, Never}
use Rattle.rv_command.specs.declared.color.ColorFault.{ColorFault}
use Rattle.rv_command.specs.declared.color.ColorFault.TheVariants as fault

-- a line's colour and the words that it keeps, or the value that is refused
abbrev pub Colored : Type 0
Colored = Result (Color × List Text) Text

-- the colour that a value names, or the value itself where it names none
abbrev pub color_of : Text → Result Color Text
color_of value = if bytes_eq value (codes "auto") then Ok Auto
    else if bytes_eq value (codes "always") then Ok Always
    else if bytes_eq value (codes "never") then Ok Never
    else Err value

-- what the rest of a line gives with the colour of a value, unless the value is refused
abbrev pub with_color : Result Color Text → (Color → Colored) → Colored
with_color (Ok color) rest = rest color
with_color (Err value) rest = Err value

-- these words are kept, in front of those of the rest of a line
abbrev pub in_front : List Text → Colored → Colored
in_front words (Ok rest) = Ok (rest.0, words ++ rest.1)
in_front words (Err value) = Err value

abbrev mutual
  -- what the words of a line give, with the colour that holds where they name none
  pub colored : Color → List Text → Colored
  colored color [] = Ok (color, [])
  colored color (word ∷ rest) =
      if bytes_eq word (codes "--color") then value_first rest
      else if starts_with nat_eq word (codes "--color=") then with_color (color_of (drop (length (codes "--color=")) word)) (λ chosen. colored chosen rest)
      else if bytes_eq word (codes "--") then Ok (color, word ∷ rest)
      else in_front (word ∷ []) (colored color rest)

  -- what the words behind `--color` give: the first of them is its value, which is empty where there is none
  pub value_first : List Text → Colored
  value_first [] = Err []
  value_first (value ∷ rest) = with_color (color_of value) (λ chosen. colored chosen rest)

-- a line is refused with the value of a fault; where memory ran out, nothing is said of the line
abbrev pub IsRefused : ColorFault → Colored → Type 0
IsRefused (fault.Value value) line = line ≡ Err value.now
IsRefused fault.NoMemory line = ⊤
