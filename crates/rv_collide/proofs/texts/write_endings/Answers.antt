use Rattle.std.proofs.Common.{arith}
use Rattle.std.proofs.lemmas.Bool.Decides.{nat_tests}
use Rattle.rv_collide.proofs.EndingLemmas.{lines_next}
use Rattle.rv_collide.proofs.texts.write_endings.Goals as goal

pub loop-number-preserved : goal.loop-number-preserved
loop-number-preserved g c =
    record {
      written = lines_next c.args.endings.now c.loop-number.number _ _ _ _ (omega arith) c.loop-number.invariant.written c.in_ok-write_ending.ensures.ok;
      failed = grind (arith, nat_tests);
    }
