-- the bytes so far were read, and the reader has failed no more than before
use Rattle.std.proofs.Common.{◌≡◌, ◌-◌, ◌≤◌, vec_len}
use Rattle.std.specs.Io.KnownBytes.{Consumes}
use Rattle.rv_memory.specs.Flagged.{device, has_failed}
use Rattle.rv_memory.proofs.flagged.read_whole.Given as goal

abbrev pub invariant-loop-count : goal.invariant-loop-count
invariant-loop-count g l =
    record {
      within : vec_len l.bytes ≤ l.limit;
      taken : Consumes (g.R.Read.remaining (device l.initial.reader)) (g.R.Read.remaining (device l.reader)) l.bytes.items;
      failed : has_failed l.reader ≡ has_failed l.initial.reader;
    }

abbrev pub decreases-loop-count : goal.decreases-loop-count
decreases-loop-count g l = l.limit - vec_len l.bytes
