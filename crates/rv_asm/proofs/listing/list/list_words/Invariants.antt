-- the lines so far are written, and the writer has failed no more than before
use Rattle.std.proofs.Common.{◌≡◌, ◌≤◌, ◌+◌, ◌^◌, length}
use Rattle.rv_asm.proofs.ListLemmas.{Listed}
use Rattle.rv_asm.proofs.listing.list.list_words.Given as goal

abbrev pub invariant-loop-word : goal.invariant-loop-word
invariant-loop-word g l =
    record {
      written : Listed (g.O.Output.written l.initial.writer) (g.O.Output.written l.writer) l.start l.bytes l.address l.rest;
      failed : g.O.Output.has_failed l.writer ≡ g.O.Output.has_failed l.initial.writer;
      room : l.address + length l.rest ≤ 2 ^ 32;
    }

abbrev pub decreases-loop-word : goal.decreases-loop-word
decreases-loop-word g l = length l.rest
