-- the lines of the rows so far are written, and the writer has failed no more than before
use Rattle.std.proofs.Common.{◌≡◌, map, take}
use Rattle.std.specs.Io.KnownBytes.{Appends}
use Rattle.rv_tables.specs.HuntText.{row_line}
use Rattle.rv_text.specs.Lines.{text_of_lines}
use Rattle.rv_tables.proofs.texts.write_rows.Given as goal

abbrev pub invariant-loop-row : goal.invariant-loop-row
invariant-loop-row g l =
    record {
      written : Appends (g.O.Output.written l.initial.writer) (g.O.Output.written l.writer) (text_of_lines (map row_line (take l.row-index l.rows)));
      failed : g.O.Output.has_failed l.writer ≡ g.O.Output.has_failed l.initial.writer;
    }
