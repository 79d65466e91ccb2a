-- the segments so far are listed, and the writer has failed no more than before
use Rattle.std.proofs.Common.{◌≡◌, take}
use Rattle.std.specs.Io.KnownBytes.{Appends}
use Rattle.std.specs.List.{flat_map}
use Rattle.rv_text.specs.Lines.{text_of_lines}
use Rattle.rv_asm.specs.Listing.{segment_lines}
use Rattle.rv_asm.proofs.listing.list.list.Given as goal

abbrev pub invariant-loop-segment : goal.invariant-loop-segment
invariant-loop-segment g l =
    record {
      written : Appends (g.O.Output.written l.initial.writer) (g.O.Output.written l.writer) (flat_map (λ s. text_of_lines (segment_lines s)) (take l.segment-index l.segment-items));
      failed : g.O.Output.has_failed l.writer ≡ g.O.Output.has_failed l.initial.writer;
    }
