-- the lines so far are written, and the writer has failed no more than before
use Rattle.std.proofs.Common.{◌≡◌, ◌∷◌, [], ◌++◌, take}
use Rattle.std.specs.Io.KnownBytes.{Appends}
use Rattle.std.specs.List.{flat_map}
use Rattle.std.specs.String.{string_bytes}
use Rattle.rv_debug.proofs.answer.put_lines.Given as goal

abbrev pub invariant-loop-line : goal.invariant-loop-line
invariant-loop-line g l =
    record {
      written : Appends (g.O.Output.written l.fn.writer) (g.O.Output.written l.writer) (flat_map (λ line. string_bytes line ++ 10 ∷ []) (take l.line-index l.lines));
      failed : g.O.Output.has_failed l.writer ≡ g.O.Output.has_failed l.fn.writer;
    }
