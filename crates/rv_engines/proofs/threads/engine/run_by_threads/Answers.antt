use Rattle.std.proofs.KnownBytes.{Appends-kept}
use Rattle.rv_collide.specs.Numbers.{numbers}
use Rattle.rv_memory.specs.Flagged as flag
use Rattle.rv_engines.proofs.ThreadsLemmas.{run_shown}
use Rattle.rv_engines.proofs.threads.engine.run_by_threads.Goals as goal

pub returns-clause-text : goal.returns-clause-text
returns-clause-text g c =
    run_shown (g.R.Read.remaining (flag.device c.args.image.now)) (numbers c.args.plan) c.args.seed c.in_ok-told.told _ _ c.in_ok-told.ensures.ok
    (Appends-kept _ _ _ _ c.in_ok-write_finished.ensures.ok c.in_ok-finish.ensures.sent) c.in_ok-save_schedule.ensures.saved
