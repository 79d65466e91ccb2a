use Rattle.std.proofs.Common.{arith, refl}
use Rattle.std.proofs.lemmas.Bool.Decides.{nat_tests}
use Rattle.rv_gdb.specs.Shown.{next_thread, threads_text}
use Rattle.rv_gdb.proofs.TextLemmas.{after_piece, at_first, ends, first_thread, text_end, text_first}
use Rattle.rv_gdb.proofs.shown.write_threads.Goals as goal

pub loop-hart-init : goal.loop-hart-init
loop-hart-init g c =
    record {
      left = after_piece (threads_text c.args.harts) _ _ _ _ _ _ (at_first (threads_text c.args.harts) _) refl (first_thread _ _ c.in_ok-put.ensures.ok);
      failed = grind (arith, nat_tests);
    }

pub loop-hart-preserved : goal.loop-hart-preserved
loop-hart-preserved g c =
    record {
      left = after_piece (threads_text c.args.harts) _ (next_thread c.loop-hart.hart) _ _ _ _ c.loop-hart.invariant.left (text_first next_thread c.args.harts c.loop-hart.hart (omega arith)) c.in_ok-write_next_thread.ensures.ok;
      failed = grind (arith, nat_tests);
    }

pub returns-clause-ok : goal.returns-clause-ok
returns-clause-ok g c = ends (threads_text c.args.harts) _ _ _ c.loop-hart.invariant.left (text_end next_thread c.args.harts c.loop-hart.hart (omega arith))
