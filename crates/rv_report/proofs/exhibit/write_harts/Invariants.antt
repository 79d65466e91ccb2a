-- the harts so far are written, and the writer has failed no more than before
use Rattle.std.proofs.Common.{◌≡◌, take}
use Rattle.std.specs.Io.KnownBytes.{Appends}
use Rattle.rv_report.specs.ExhibitText.{harts_text}
use Rattle.rv_report.proofs.exhibit.write_harts.Given as goal

abbrev pub invariant-loop-hart : goal.invariant-loop-hart
invariant-loop-hart g l =
    record {
      written : Appends (g.O.Output.written l.initial.writer) (g.O.Output.written l.writer) (harts_text (take l.hart-index l.harts));
      failed : g.O.Output.has_failed l.writer ≡ g.O.Output.has_failed l.initial.writer;
    }
