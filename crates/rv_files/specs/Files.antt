-- The path that a fault names where a file failed.
use Rattle.std.specs.Prelude.{ℕ, Bool, nat_lt, if◌then◌else◌, Option, Some, None, option_and_then, List, length, slice_get}
use Rattle.rv_files.specs.declared.files.OutputFile.{OutputFile}

abbrev pub path_if : Bool → List ℕ → Option (List ℕ)
path_if failed path = if failed then Some path else None

-- the path of a table of that number, and behind them that of what is expected, where it is given
abbrev pub path_of : List (List ℕ) → Option (List ℕ) → ℕ → Option (List ℕ)
path_of tables expected number = if nat_lt number (length tables) then slice_get tables number else expected

-- of a file that was to be made, where there was one
abbrev pub failed_path : {R File Dir : Type 0} → Option (OutputFile R File Dir) → Option (List ℕ)
failed_path file = option_and_then (λ made. path_if made.failed made.path.now) file
