-- What a line says of colours while it is read.
use Rattle.std.specs.Prelude.{List, Ok}
use Rattle.clap.specs.Words.{Text}
use Rattle.rv_command.specs.Color.{Colored, colored, in_front, value_first}
use Rattle.rv_command.specs.Command.{texts}
use Rattle.rv_command.specs.declared.color.Color.{Color}
use Rattle.rv_command.specs.declared.color.ColorLine.{ColorLine}
use Rattle.rv_command.specs.declared.color.Place.{Place}
use Rattle.rv_command.specs.declared.color.Place.TheVariants.{Any, Behind, Value}

-- what the words to come give, by what the first of them may be
abbrev pub to_come : Place → Color → List Text → Colored
to_come Any color words = colored color words
to_come Value color words = value_first words
to_come Behind color words = Ok (color, words)

-- what the words that a line keeps and those to come give
abbrev pub line_with : ColorLine → Place → List Text → Colored
line_with line place words = in_front (texts line.words.items) (to_come place line.color words)
