-- The source lines of a table that may have none.
use Rattle.std.specs.Borrow.{Bor}
use Rattle.std.specs.Prelude.{Option, Some, None, List, []}
use Rattle.rv_lines.specs.SourceLines.{SourceLine}

abbrev pub lines_given : Option (Bor (List SourceLine)) → List SourceLine
lines_given None = []
lines_given (Some lines) = lines.now
