use Rattle.std.proofs.Common.{refl, arith}
use Rattle.std.proofs.lemmas.Bool.Decides.{nat_tests}
use Rattle.std.specs.Prelude.{slice_get}
use Rattle.rv_gdb.proofs.TextLemmas.{registers_begin, registers_end, registers_next}
use Rattle.rv_gdb.proofs.shown.write_registers.Goals as goal

pub loop-r-init : goal.loop-r-init
loop-r-init g c = record { left = registers_begin c.args.machine.now.state.harts c.args.h _ c.requires; failed = refl }

pub loop-r-preserved : goal.loop-r-preserved
loop-r-preserved g c =
    record {
      left = registers_next (slice_get c.args.machine.now.state.harts c.args.h) c.loop-r.r c.register.result _ _ _ (omega arith) c.loop-r.invariant.left c.register.ensures c.in_ok-write_word.ensures.ok;
      failed = grind (arith, nat_tests);
    }

pub returns-clause-ok : goal.returns-clause-ok
returns-clause-ok g c = registers_end (slice_get c.args.machine.now.state.harts c.args.h) c.loop-r.r c.pc.result _ _ _ (omega arith) c.loop-r.invariant.left c.pc.ensures c.in_ok-write_word-2.ensures.ok
