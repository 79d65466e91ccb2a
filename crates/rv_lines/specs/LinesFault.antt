-- Which fault is told of a file of source lines.
use Rattle.std.specs.Prelude.{◌≡◌, ⊤, ℕ, Result, Err}
use Rattle.rv_lines.specs.declared.fault.LinesFault.{LinesFault}
use Rattle.rv_lines.specs.declared.fault.LinesKind.{LinesKind}
use Rattle.rv_lines.specs.declared.fault.LinesRefusal.{LinesRefusal}
use Rattle.rv_lines.specs.declared.fault.LinesRefusal.TheVariants.{Line, NoMemory}

abbrev pub no_memory : LinesRefusal
no_memory = NoMemory

abbrev pub refused : ℕ → LinesKind → LinesRefusal
refused number kind = Line (record { line = number; kind = kind })

-- the fault is the one that is told of the bytes; that memory is out says nothing of them
abbrev pub IsTold : {A : Type 0} → Result A LinesFault → LinesRefusal → Type 0
IsTold told (Line fault) = told ≡ Err fault
IsTold told NoMemory = ⊤
