-- The faults of a line of source, in the order in which they are told.
use Rattle.std.specs.Prelude.{ℕ, nat_le, if◌then◌else◌, Result, Ok, Err}
use Rattle.rv_asm.specs.declared.statement.AsmKind.{AsmKind}
use Rattle.rv_asm.specs.declared.statement.AsmKind.TheVariants as kind

-- The order in which the faults of one line are told.
abbrev pub rank : AsmKind → ℕ
rank kind.LabelTwice = 0
rank kind.Word = 1
rank kind.Directive = 2
rank kind.Register = 3
rank kind.Range = 4
rank kind.LabelUnknown = 5
rank kind.TooLarge = 6
rank kind.NoMemory = 7
rank kind.Empty = 8

abbrev pub first_told : AsmKind → AsmKind → AsmKind
first_told a b = if nat_le (rank a) (rank b) then a else b

-- two readings of one line: both, or the fault that is told first
abbrev pub both : {A B : Type 0} → Result A AsmKind → Result B AsmKind → Result (A × B) AsmKind
both (Ok a) (Ok b) = Ok (a, b)
both (Ok a) (Err fault) = Err fault
both (Err fault) (Ok b) = Err fault
both (Err fault) (Err other) = Err (first_told fault other)
