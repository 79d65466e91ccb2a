-- The commands and options as `clap` knows them, and what it finds in the words.
use Rattle.std.specs.Prelude.{Bool, true, List, [], ◌∷◌, ◌++◌, fold, Some, codes}
use Rattle.clap.specs.Words.{App, Rule, Shape, Text, new_app, new_rule, with_subcommand}
use Rattle.clap.specs.Lexer.{usize_max}
use Rattle.clap.specs.Walk.{is_empty}
use Rattle.clap.specs.Simple.{new_shape, on_top}
use Rattle.clap.specs.Faults.{fault_of}
use Rattle.clap.specs.declared.builder.action.ArgAction.TheVariants.{SetTrue}

-- a word that has to stand at its place after the command's name
abbrev pub required_word : Text → Rule
required_word name = record (new_rule name) { required = true }

-- one word or more at the end of the line
abbrev pub required_words : Text → Rule
required_words name = record (required_word name) { range = Some (record { start_inclusive = 1; end_inclusive = usize_max }) }

-- an option `--name VALUE` that may be left out, and one that has to be given
abbrev pub option : Text → Rule
option name = record (new_rule name) { long = Some name; value_names = 1 }

abbrev pub required_option : Text → Rule
required_option name = record (option name) { required = true }

-- a flag `--name`
abbrev pub flag : Text → Rule
flag name = record (new_rule name) { long = Some name; action = Some SetTrue }

abbrev pub image : Rule
image = required_word (codes "IMAGE")

abbrev pub schedule : Rule
schedule = required_word (codes "SCHEDULE")

-- the options of a plan
abbrev pub plan_options : List Rule
plan_options = required_option (codes "harts") ∷ required_option (codes "steps")
    ∷ required_option (codes "arms") ∷ required_option (codes "pause") ∷ option (codes "slots") ∷ []

-- the options of `run`
abbrev pub run_options : List Rule
run_options = plan_options ++ required_option (codes "seed") ∷ required_option (codes "runs") ∷ required_option (codes "workers")
    ∷ option (codes "named") ∷ option (codes "skip") ∷ option (codes "keep") ∷ option (codes "save") ∷ []

-- the options of `threads`
abbrev pub threads_options : List Rule
threads_options = plan_options ++ required_option (codes "seed") ∷ option (codes "save") ∷ []

-- the options of `explain`
abbrev pub explain_options : List Rule
explain_options = option (codes "named") ∷ option (codes "lines") ∷ option (codes "around") ∷ option (codes "race") ∷ option (codes "picture") ∷ option (codes "json") ∷ option (codes "color") ∷ []

-- the options of `hunt`
abbrev pub hunt_options : List Rule
hunt_options = option (codes "harts") ∷ option (codes "seed") ∷ option (codes "first") ∷ option (codes "runs") ∷ option (codes "budget")
    ∷ option (codes "workers") ∷ option (codes "plan") ∷ option (codes "slots") ∷ flag (codes "sampled") ∷ option (codes "aim") ∷ flag (codes "no-orders") ∷ option (codes "named") ∷ option (codes "skip")
    ∷ option (codes "idle") ∷ option (codes "lines") ∷ option (codes "ignore") ∷ option (codes "save-to") ∷ option (codes "page") ∷ option (codes "list") ∷ option (codes "table-to") ∷ option (codes "json") ∷ option (codes "blocks")
    ∷ flag (codes "table") ∷ flag (codes "check") ∷ flag (codes "check-all") ∷ flag (codes "check-ends") ∷ option (codes "right") ∷ option (codes "expect") ∷ flag (codes "quiet") ∷ flag (codes "progress") ∷ option (codes "color") ∷ []

-- the options of `show`
abbrev pub show_options : List Rule
show_options = option (codes "lines") ∷ option (codes "ignore") ∷ option (codes "save-to") ∷ option (codes "page") ∷ option (codes "list") ∷ option (codes "json") ∷ option (codes "blocks")
    ∷ option (codes "workers") ∷ flag (codes "check") ∷ flag (codes "check-all") ∷ option (codes "expect") ∷ flag (codes "quiet") ∷ flag (codes "progress") ∷ option (codes "color") ∷ []

-- a command's name, and what it takes
abbrev pub command : Text → List Rule → Shape
command name rules = record (new_shape name) { rules = rules }

abbrev pub commands : List Shape
commands = command (codes "words") []
    ∷ command (codes "asm") (required_word (codes "SOURCE") ∷ image ∷ [])
    ∷ command (codes "list") (image ∷ [])
    ∷ command (codes "replay") (image ∷ schedule ∷ [])
    ∷ command (codes "debug") (image ∷ schedule ∷ [])
    ∷ command (codes "run") (image ∷ run_options)
    ∷ command (codes "threads") (image ∷ threads_options)
    ∷ command (codes "exhibit") (image ∷ schedule ∷ required_word (codes "N") ∷ [])
    ∷ command (codes "explain") (image ∷ schedule ∷ explain_options)
    ∷ command (codes "gdb") (image ∷ schedule ∷ [])
    ∷ command (codes "hunt") (image ∷ hunt_options)
    ∷ command (codes "merge") (required_words (codes "TABLE") ∷ option (codes "expect") ∷ flag (codes "gaps") ∷ option (codes "color") ∷ [])
    ∷ command (codes "show") (image ∷ required_word (codes "TABLE") ∷ show_options)
    ∷ []

abbrev pub without_commands : App
without_commands = on_top (λ s. record s { has_version = true; subcommand_required = true }) (new_app (codes "rvcollide"))

abbrev pub program : App
program = fold with_subcommand without_commands commands

-- `clap` finds no fault in the words
abbrev pub is_accepted : List Text → Bool
is_accepted words = is_empty (fault_of program words)
