-- The commands of the debugger, one a line.
use Rattle.std.specs.Prelude.{ℕ, ◌^◌, ◌-◌, ◌≤◌, Bool, true, false, ◌==◌, ⊤, if◌then◌else◌, Option, Some, None, option_and_then, option_map, List, [], ◌∷◌, codes}
use Rattle.std.specs.Str.{bytes_eq}
use Rattle.rv_text.specs.Decimal.{decimal_of}
use Rattle.rv_text.specs.Hexadecimal.{word_of}
use Rattle.rv_text.specs.Numeral.{up_to}
use Rattle.rv_text.specs.Pieces.{pieces_of}
use Rattle.rv_debug.specs.declared.command.Command.{Command}
use Rattle.rv_debug.specs.declared.command.Command.TheVariants.{Go, Forward, Back, Hart, Bytes, Lines, Find, Quit}

-- a number of 32 bits
abbrev pub number_in : List ℕ → Option ℕ
number_in word = up_to (2 ^ 32 - 1) (decimal_of word)

abbrev pub unless_zero : ℕ → Option ℕ
unless_zero n = if n == 0 then None else Some n

-- a number from 1 to the limit
abbrev pub count_in : ℕ → List ℕ → Option ℕ
count_in limit word = option_and_then unless_zero (up_to limit (decimal_of word))

-- `f`, `b` and `q`
abbrev pub plain_command : List ℕ → Option Command
plain_command name =
    if bytes_eq name (codes "f") then Some Forward
    else if bytes_eq name (codes "b") then Some Back
    else if bytes_eq name (codes "q") then Some Quit
    else None

-- `g N`, `x H` and `w ADDR`
abbrev pub command_with : List ℕ → List ℕ → Option Command
command_with name word =
    if bytes_eq name (codes "g") then option_map Go (number_in word)
    else if bytes_eq name (codes "x") then option_map Hart (number_in word)
    else if bytes_eq name (codes "w") then option_map Find (word_of word)
    else None

-- `m ADDR LEN`, of 1 to 256 bytes, and `l ADDR COUNT`, of 1 to 64 lines
abbrev pub command_from : List ℕ → List ℕ → List ℕ → Option Command
command_from name from number =
    if bytes_eq name (codes "m") then option_and_then (λ address. option_map (Bytes address) (count_in 256 number)) (word_of from)
    else if bytes_eq name (codes "l") then option_and_then (λ address. option_map (Lines address) (count_in 64 number)) (word_of from)
    else None

abbrev pub command_in : List (List ℕ) → Option Command
command_in [] = None
command_in (name ∷ []) = plain_command name
command_in (name ∷ word ∷ []) = command_with name word
command_in (name ∷ from ∷ number ∷ []) = command_from name from number
command_in (name ∷ from ∷ number ∷ word ∷ words) = None

-- The command that a line says, with one blank between two of its words. None where the line is malformed.
unfoldable pub command_of : List ℕ → Option Command
command_of line = command_in (pieces_of 32 line)

-- whether the command ends the session
abbrev pub is_quit : Option Command → Bool
is_quit (Some Quit) = true
is_quit (Some command) = false
is_quit None = false

-- the lengths of what is asked for are in their ranges
abbrev pub IsInRange : Command → Type 0
IsInRange (Bytes address len) = (1 ≤ len) × (len ≤ 256)
IsInRange (Lines address count) = (1 ≤ count) × (count ≤ 64)
IsInRange command = ⊤
