use Rattle.std.proofs.Common.{arith}
use Rattle.std.proofs.lemmas.List.{take_rest}
use Rattle.std.proofs.lemmas.Grind.{common_steps}
use Rattle.std.proofs.lemmas.Bool.Decides.{nat_tests}
use Rattle.rv_memory.proofs.Written.{written_more}
use Rattle.rv_memory.proofs.flagged.write_whole.Goals as goal

-- a write takes some of the rest, which follows what is written
pub loop-done-preserved : goal.loop-done-preserved
loop-done-preserved g c =
    let bytes = c.args.bytes.now in
    let done = c.loop-done.done in
    record {
      within = grind (arith, common_steps);
      written = written_more _ _ _ bytes done c.in-Ok.count c.loop-done.invariant.written (rw (take_rest bytes done) at c.in-Ok.ensures.bytes);
      failed = grind (arith, nat_tests);
    }
