-- the bytes so far were read, and the reader has failed no more than before
use Rattle.std.proofs.Common.{◌≡◌, ◌-◌, ◌≤◌, ◌+◌, vec_len}
use Rattle.std.specs.Io.KnownBytes.{Consumes}
use Rattle.rv_memory.specs.Flagged.{device, has_failed}
use Rattle.rv_collide.proofs.schedule.reading.read_front.Given as goal

abbrev pub invariant-reads : goal.invariant-reads
invariant-reads g l =
    record {
      within : vec_len l.text ≤ 67_108_864 + 4096;
      taken : Consumes (g.R.Read.remaining (device l.initial.reader)) (g.R.Read.remaining (device l.reader)) l.text.items;
      failed : has_failed l.reader ≡ has_failed l.initial.reader;
    }

abbrev pub decreases-reads : goal.decreases-reads
decreases-reads g l = (67_108_864 + 4096) - vec_len l.text
