-- the first `done` bytes are written, and the writer has failed no more than before
use Rattle.std.proofs.Common.{◌≡◌, ◌-◌, ◌≤◌, take, length}
use Rattle.std.specs.Io.KnownBytes.{Appends}
use Rattle.rv_memory.specs.Flagged.{device, has_failed}
use Rattle.rv_memory.proofs.flagged.write_whole.Given as goal

abbrev pub invariant-loop-done : goal.invariant-loop-done
invariant-loop-done g l =
    record {
      within : l.done ≤ length l.bytes;
      written : Appends (g.W.Write.contents (device l.initial.writer)) (g.W.Write.contents (device l.writer)) (take l.done l.bytes);
      failed : has_failed l.writer ≡ has_failed l.initial.writer;
    }

abbrev pub decreases-loop-done : goal.decreases-loop-done
decreases-loop-done g l = length l.bytes - l.done
