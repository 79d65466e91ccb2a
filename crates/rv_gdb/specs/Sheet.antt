-- A text that is gathered in memory.
use Rattle.std.specs.Prelude.{ℕ, Bool, List}
use Rattle.rv_gdb.specs.declared.sheet.Sheet.{Sheet}

-- the bytes that were put
abbrev pub bytes : Sheet → List ℕ
bytes sheet = sheet.bytes.items

-- whether memory for some was refused
abbrev pub has_failed : Sheet → Bool
has_failed sheet = sheet.failed
