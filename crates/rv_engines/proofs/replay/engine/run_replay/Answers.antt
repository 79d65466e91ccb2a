use Rattle.rv_memory.specs.Flagged as flag
use Rattle.rv_engines.proofs.ReplayLemmas.{replay_written}
use Rattle.rv_engines.proofs.replay.engine.run_replay.Goals as goal

pub returns-clause-text : goal.returns-clause-text
returns-clause-text g c =
    replay_written (g.R.Read.remaining (flag.device c.args.image.now)) (g.Q.Read.remaining (flag.device c.args.schedule.now)) c.in_ok-run.run' _ c.show_run.result c.in_ok-run.ensures.ok c.show_run.ensures.text
