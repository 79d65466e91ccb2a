-- The file of a source's bytes, or why they are refused.
use Rattle.std.specs.Prelude.{ℕ, ◌+◌, ◌==◌, if◌then◌else◌, Result, Ok, Err, List, length, take, count_by}
use Rattle.std.specs.Str.Lossy.{utf8_valid_len}
use Rattle.rv_asm.specs.Assembled.{assembled}
use Rattle.rv_asm.specs.declared.fault.AsmFault.{AsmFault}
use Rattle.rv_asm.specs.declared.statement.AsmKind.TheVariants.{Word}
use Rattle.rv_elf.specs.Written.{written}
use Rattle.rv_memory.specs.Chain.{◌>>=◌}
use Rattle.rv_faults.specs.Fault.{fault_of_asm}
use Rattle.rv_faults.specs.Fault.{unless_long}
use Rattle.rv_faults.specs.declared.fault.Fault.{Fault}
use Rattle.rv_faults.specs.declared.fault.Fault.TheVariants.{Asm}

-- the line after these bytes, from 1 on
abbrev pub line_after : List ℕ → ℕ
line_after bytes = count_by (λ byte. byte == 10) bytes + 1

-- the bytes, if they are UTF-8, and else a fault of the first line with bytes that are not
abbrev pub unless_other : List ℕ → Result (List ℕ) Fault
unless_other bytes =
    if utf8_valid_len bytes == length bytes then Ok bytes else Err (Asm (record { line = line_after (take (utf8_valid_len bytes) bytes); kind = Word }))

abbrev pub told_asm : {A : Type 0} → Result A AsmFault → Result A Fault
told_asm (Ok image) = Ok image
told_asm (Err fault) = Err (fault_of_asm fault)

-- the file that `asm` makes of a source's bytes, or why they are refused: they are too many, or not UTF-8, and
-- else the source's first fault
unfoldable pub file_of : List ℕ → Result (List ℕ) Fault
file_of bytes = do
  whole ← unless_long bytes
  source ← unless_other whole
  image ← told_asm (assembled source)
  Ok (written image)
