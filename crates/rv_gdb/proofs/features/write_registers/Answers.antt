use Rattle.std.proofs.Common.{arith}
use Rattle.std.proofs.lemmas.Bool.Decides.{nat_tests}
use Rattle.rv_gdb.specs.Features.{register_element, register_elements}
use Rattle.rv_gdb.proofs.TextLemmas.{after_piece, at_first, ends, text_end, text_first}
use Rattle.rv_gdb.proofs.features.write_registers.Goals as goal

pub loop-r-init : goal.loop-r-init
loop-r-init g c = record { left = at_first register_elements _; failed = search arith }

pub loop-r-preserved : goal.loop-r-preserved
loop-r-preserved g c =
    record {
      left = after_piece register_elements _ (register_element c.loop-r.r) _ _ _ _ c.loop-r.invariant.left (text_first register_element 32 c.loop-r.r (omega arith)) c.in_ok-write_register.ensures.ok;
      failed = grind (arith, nat_tests);
    }

pub returns-clause-ok : goal.returns-clause-ok
returns-clause-ok g c = ends register_elements _ _ _ c.loop-r.invariant.left (text_end register_element 32 c.loop-r.r (omega arith))
