use Rattle.std.proofs.Common.{arith}
use Rattle.std.proofs.lemmas.Bool.Decides.{nat_tests}
use Rattle.rv_hart.proofs.TextLemmas.{lines_next}
use Rattle.rv_hart.proofs.texts.write_harts.Goals as goal

pub loop-h-preserved : goal.loop-h-preserved
loop-h-preserved g c =
    record {
      written = lines_next c.args.machine.now.state.harts c.loop-h.h _ _ _ c.loop-h.invariant.written c.in_ok-write_hart.ensures.ok;
      failed = grind (arith, nat_tests);
    }
