-- the bytes so far and those of the digits that are left are the text's, and both fit
use Rattle.std.proofs.Common.{◌≡◌, ◌+◌, ◌*◌, ◌≤◌, ◌++◌, length}
use Rattle.std.specs.Prelude.{option_map}
use Rattle.rv_gdb.specs.Fields.{bytes_in}
use Rattle.rv_gdb.proofs.decoded.decode.Given as goal

abbrev pub invariant-loop-left : goal.invariant-loop-left
invariant-loop-left l =
    record {
      same : bytes_in l.text ≡ option_map (λ bytes. l.decoded ++ bytes) (bytes_in l.left);
      fits : 2 * length l.decoded + length l.left ≤ 512;
    }

abbrev pub decreases-loop-left : goal.decreases-loop-left
decreases-loop-left l = length l.left
