-- That each value which `clap` finds in a line stands in its words. `clap` has a specification of its own, by which Command says what a line
-- asks for; this is the check of that in plain words.
use Rattle.std.specs.Prelude.{◌≡◌, ◌⊎◌, ◌+◌, ℕ, Bool, true, false, IfSome, Contains, List, [], ◌∷◌, ◌++◌, drop, slice_get, Some, codes}
use Rattle.std.specs.List.{list_any}
use Rattle.std.specs.Str.{bytes_eq}
use Rattle.clap.specs.Words.{Row, Text, first_of, subcommand_of}
use Rattle.rv_command.specs.ClapProgram.{program}

-- an argument that is a word of its own; a command after `help` is one too
abbrev pub is_place : Text → Bool
is_place name = list_any (bytes_eq name) (codes "SOURCE" ∷ codes "IMAGE" ∷ codes "SCHEDULE" ∷ codes "N" ∷ codes "TABLE" ∷ codes "subcommand" ∷ [])

-- an option without a value
abbrev pub is_flag : Text → Bool
is_flag name = list_any (bytes_eq name) (codes "sampled" ∷ codes "no-orders" ∷ codes "table" ∷ codes "check" ∷ codes "check-all" ∷ codes "check-ends" ∷ codes "quiet" ∷ codes "progress" ∷ codes "gaps" ∷ [])

-- the option stands in the words with this value: `--name value` or `--name=value`
pub data Gives (words : List Text) (name value : Text) : Type 0 where
  apart : (place : ℕ) → slice_get words place ≡ Some (codes "--" ++ name) → slice_get words (place + 1) ≡ Some value → Gives words name value
  joined : Contains words (codes "--" ++ name ++ codes "=" ++ value) → Gives words name value

-- a word of its own is its value, a flag stands there unless its value is `false`, and any other argument is an option with a value
abbrev pub Stands : Bool → Bool → List Text → Text → Text → Type 0
Stands true flag words name value = Contains words value
Stands false true words name value = (value ≡ codes "false") ⊎ Contains words (codes "--" ++ name)
Stands false false words name value = Gives words name value

-- each argument's value stands in the words
abbrev pub AreGiven : List Text → List Row → Type 0
AreGiven words rows = (name : Text) → IfSome (first_of name rows) (Stands (is_place name) (is_flag name) words name)

-- so it is with what `clap` finds for a line's command, in the words behind the program's name and the command's
abbrev pub IsGiven : List Text → Type 0
IsGiven words = IfSome (subcommand_of program words) (λ found. AreGiven (drop 2 words) found.1)
