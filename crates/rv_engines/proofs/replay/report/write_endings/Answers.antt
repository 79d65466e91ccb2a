use Rattle.std.proofs.Common.{arith}
use Rattle.std.proofs.lemmas.Bool.Decides.{nat_tests}
use Rattle.rv_collide.specs.Stored.{setting_of}
use Rattle.rv_collide.specs.Verdict.{endings}
use Rattle.rv_engines.proofs.ReplayLemmas.{endings_next}
use Rattle.rv_engines.proofs.replay.report.write_endings.Goals as goal

pub loop-n-preserved : goal.loop-n-preserved
loop-n-preserved g c =
    let run = c.args.run.now in
    record {
      written = endings_next c.one_ending_more.ensures (endings (setting_of run).start run.entries) c.loop-n.n c.ending.result _ _ _ c.ending.ensures c.loop-n.invariant.written (rw c.from.ensures at c.in_ok-write_ending.ensures.ok);
      failed = grind (arith, nat_tests);
    }
