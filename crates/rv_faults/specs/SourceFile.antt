-- What a file of source lines says, or why it is refused.
use Rattle.std.specs.Prelude.{◌≡◌, ⊤, ℕ, Bool, false, not, ◌&&◌, Option, Some, None, option_map, Result, Ok, Err, List}
use Rattle.std.specs.List.{list_any}
use Rattle.rv_elf.specs.Contents.{Contents}
use Rattle.rv_faults.specs.Fault as plain
use Rattle.rv_faults.specs.Fault.{unless_long}
use Rattle.rv_faults.specs.declared.fault.Fault.{Fault}
use Rattle.rv_faults.specs.declared.fault.Fault.TheVariants as fault
use Rattle.rv_faults.specs.declared.source_lines.SourceFault.{SourceFault}
use Rattle.rv_faults.specs.declared.source_lines.SourceFault.TheVariants.{Plain, Line}
use Rattle.rv_lines.specs.SourceLines.{SourceLine, lines_in, reach}
use Rattle.rv_lines.specs.declared.fault.LinesFault.{LinesFault}
use Rattle.rv_lines.specs.declared.fault.LinesRefusal.{LinesRefusal}
use Rattle.rv_lines.specs.declared.fault.LinesRefusal.TheVariants as refusal
use Rattle.rv_memory.specs.Chain.{◌>>=◌}
use Rattle.rv_memory.specs.Extent.{end_of}
use Rattle.rv_memory.specs.Flagged.{device}
use Rattle.rv_memory.specs.declared.flagged.Flagged.{Flagged}
use Rattle.rv_memory.specs.declared.flagged.ReadFault.{ReadFault}

abbrev pub fault_of_read : ReadFault → SourceFault
fault_of_read given = Plain (plain.fault_of_read given)

abbrev pub fault_of_lines : LinesRefusal → SourceFault
fault_of_lines (refusal.Line given) = Line given
fault_of_lines refusal.NoMemory = Plain fault.NoMemory

abbrev pub plainly : {A : Type 0} → Result A Fault → Result A SourceFault
plainly (Ok a) = Ok a
plainly (Err given) = Err (Plain given)

abbrev pub told_lines : {A : Type 0} → Result A LinesFault → Result A SourceFault
told_lines (Ok a) = Ok a
told_lines (Err given) = Err (Line given)

-- what lines say that are not too many
abbrev pub lines_of : List ℕ → Result (List SourceLine) SourceFault
lines_of text = told_lines (lines_in text)

-- what a file says, or why its bytes are refused: they are too many, and else the first line with a fault
unfoldable pub source_of : List ℕ → Result (List SourceLine) SourceFault
source_of bytes = plainly (unless_long bytes) >>= lines_of

-- the bytes that a reader has left, where they are known and it is given
abbrev pub bytes_if : {R : Type 0} → (R → Option (List ℕ)) → Option (Flagged R) → Option (Option (List ℕ))
bytes_if remaining None = Some None
bytes_if remaining (Some reader) = option_map Some (remaining (device reader))

-- the same of a file that may not be given
abbrev pub source_in : Option (List ℕ) → Result (Option (List SourceLine)) SourceFault
source_in None = Ok None
source_in (Some bytes) = source_of bytes >>= λ lines. Ok (Some lines)

-- the fault is the one that is told of a file's bytes; that a device failed or memory is out says nothing of them
abbrev pub IsTold : {A : Type 0} → Result A SourceFault → SourceFault → Type 0
IsTold told (Plain fault.Read) = ⊤
IsTold told (Plain fault.Write) = ⊤
IsTold told (Plain fault.NoMemory) = ⊤
IsTold told given = told ≡ Err given

-- the fault is that the reader failed
abbrev pub is_read : SourceFault → Bool
is_read (Plain given) = plain.is_read given
is_read (Line given) = false

-- the fault is that the writer failed
abbrev pub is_write : SourceFault → Bool
is_write (Plain given) = plain.is_write given
is_write (Line given) = false

-- something was refused, and the fault passes the test
abbrev pub fails_by : {A : Type 0} → (SourceFault → Bool) → Result A SourceFault → Bool
fails_by test (Ok a) = false
fails_by test (Err given) = test given

-- lines have frames of an instruction of the image
abbrev pub reach_image : Contents → List SourceLine → Bool
reach_image image lines = list_any (λ segment. segment.x && reach segment.start (end_of segment) lines) image.segments

-- lines, where they are given, have none
abbrev pub lines_miss : Contents → Option (List SourceLine) → Bool
lines_miss image None = false
lines_miss image (Some lines) = not (reach_image image lines)
