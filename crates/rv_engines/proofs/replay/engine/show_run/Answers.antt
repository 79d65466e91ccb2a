use Rattle.rv_engines.proofs.ReplayLemmas.{shown}
use Rattle.rv_engines.proofs.replay.engine.show_run.Goals as goal

pub returns-clause-text : goal.returns-clause-text
returns-clause-text g c = shown _ _ _ _ c.in_ok-write_run.ensures.ok c.in_ok-finish.ensures.sent
