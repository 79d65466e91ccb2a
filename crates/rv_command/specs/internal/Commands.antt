use Rattle.std.specs.Prelude.{fold, [], ◌∷◌, ◌++◌}
use Rattle.clap.specs.Words.{App, Rule, Shape, with_subcommand as with_shape}
use Rattle.clap.specs.Simple.{new_shape}
use Rattle.rv_command.specs.ClapProgram.{flag, option, required_option, required_word, required_words}
use Rattle.rv_command.specs.declared.command.subcommand.Argument.{Argument}
use Rattle.rv_command.specs.declared.command.subcommand.Argument.TheVariants as argument
use Rattle.rv_command.specs.declared.command.subcommand.Subcommand.{Subcommand}

-- The table of the commands as `clap` reads it.

-- a row of a command's arguments
abbrev pub rule : Argument → Rule
rule (argument.Word name _) = required_word name.now
rule (argument.Required name _) = required_option name.now
rule (argument.Optional name _ _) = option name.now
rule (argument.Flag name _) = flag name.now
rule (argument.Words name _) = required_words name.now

abbrev pub with_argument : Shape → Argument → Shape
with_argument s row = record s { rules = s.rules ++ rule row ∷ [] }

-- a row of the commands
abbrev pub shape : Subcommand → Shape
shape row = fold with_argument (new_shape row.name.now) row.arguments.now

abbrev pub with_subcommand : App → Subcommand → App
with_subcommand program row = with_shape program (shape row)
