use Rattle.std.proofs.Common.{arith}
use Rattle.std.proofs.lemmas.Bool.Decides.{nat_tests}
use Rattle.rv_hart.proofs.TextLemmas.{registers_next}
use Rattle.rv_hart.proofs.texts.write_registers.Goals as goal

pub loop-r-preserved : goal.loop-r-preserved
loop-r-preserved g c =
    record {
      written = registers_next _ _ _ _ c.loop-r.r c.register.result c.loop-r.invariant.written c.register.ensures c.in_ok-write_register.ensures.ok;
      failed = grind (arith, nat_tests);
    }
