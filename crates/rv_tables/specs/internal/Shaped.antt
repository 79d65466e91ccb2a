-- The lines of an ignore list whose names are still to be looked for.
use Rattle.std.specs.Prelude.{ℕ, Bool, if◌then◌else◌, Option, Some, None, Result, Ok, Err, List, [], ◌∷◌}
use Rattle.rv_memory.specs.Chain.{◌>>=◌}
use Rattle.rv_tables.specs.declared.merge.fault.IgnoreFault.{IgnoreFault}
use Rattle.rv_tables.specs.declared.merge.fault.IgnoreKind.TheVariants.{Unknown}
use Rattle.rv_tables.specs.declared.merge.ignore.Line.{Line}
use Rattle.rv_tables.specs.declared.merge.ignore.ListedLine.{ListedLine}
use Rattle.rv_tables.specs.declared.merge.ignore.SaidWords.{SaidWords}
use Rattle.rv_tables.specs.merge.Ignore.{Said, sides_of}

-- the words as texts
abbrev pub said_by : SaidWords → Said
said_by words = record { one = words.one.now; other = words.other.now; on = words.on.now }

abbrev pub listed_at : ℕ → Option Said → List ListedLine
listed_at number None = []
listed_at number (Some said) = (record { at = number; line = sides_of said }) ∷ []

abbrev pub unknown_at : ℕ → IgnoreFault
unknown_at number = record { line = number; kind = Unknown }

-- what is read after a line, once its names are looked for
abbrev pub after_line : (Line → Bool) → ListedLine → Result (List Line) IgnoreFault → Result (List Line) IgnoreFault
after_line known listed read =
    if known listed.line then (read >>= λ lines. Ok (listed.line ∷ lines)) else Err (unknown_at listed.at)

-- what is read after such lines
abbrev pub judged : (Line → Bool) → List ListedLine → Result (List Line) IgnoreFault → Result (List Line) IgnoreFault
judged known [] read = read
judged known (listed ∷ later) read = after_line known listed (judged known later read)

-- nothing more is read, or a fault
abbrev pub ended : Option IgnoreFault → Result (List Line) IgnoreFault
ended None = Ok []
ended (Some fault) = Err fault

-- the number of the first line with a name that is not known
abbrev pub unknown_in : (Line → Bool) → List ListedLine → Option ℕ
unknown_in known [] = None
unknown_in known (listed ∷ later) = if known listed.line then unknown_in known later else Some listed.at
