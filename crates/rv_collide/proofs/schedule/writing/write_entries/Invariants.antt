-- the lines so far are written, and the writer has failed no more than before
use Rattle.std.proofs.Common.{◌≡◌, take, ◌++◌, ◌∷◌, []}
use Rattle.std.specs.Io.KnownBytes.{Appends}
use Rattle.std.specs.List.{flat_map}
use Rattle.rv_collide.specs.Grammar.{entry_line}
use Rattle.rv_collide.proofs.schedule.writing.write_entries.Given as goal

abbrev pub invariant-loop-entry : goal.invariant-loop-entry
invariant-loop-entry g l =
    record {
      written : Appends (g.O.Output.written l.initial.writer) (g.O.Output.written l.writer) (flat_map (λ entry. entry_line entry ++ 10 ∷ []) (take l.entry-index l.entries));
      failed : g.O.Output.has_failed l.writer ≡ g.O.Output.has_failed l.initial.writer;
    }
