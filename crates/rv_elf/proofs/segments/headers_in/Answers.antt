use Rattle.std.proofs.Common.{◌+◌, ap, arith}
use Rattle.std.proofs.lemmas.List.{length_push}
use Rattle.rv_elf.specs.Layout.{program_header}
use Rattle.rv_elf.proofs.Tables.{records_read}
use Rattle.rv_elf.proofs.segments.headers_in.Goals as goal

pub loop-preserved : goal.loop-preserved
loop-preserved c =
    let r = records_read program_header 32 c.args.count c.loop.counter c.args.table.now c.loop.rest.now c.loop.headers c.loop-test.true c.loop.invariant.read in
    record {
      read = rw (c.push.ensures, c.read.ensures, c.split_at.ensures.back) r;
      size = omega (arith, c.split_at.ensures.back_len);
      few = rw (c.push.ensures, length_push) (ap (λ n. n + 1) c.loop.invariant.few);
    }
