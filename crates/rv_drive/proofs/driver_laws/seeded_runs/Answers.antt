use Rattle.rv_drive.proofs.DrivenLemmas.{one_run, legal, long, arms_by_draws, ended}
use Rattle.rv_drive.proofs.driver_laws.seeded_runs.Goals as goal

pub returns-clause-one : goal.returns-clause-one
returns-clause-one c = one_run

pub returns-clause-legal : goal.returns-clause-legal
returns-clause-legal c = legal

pub returns-clause-long : goal.returns-clause-long
returns-clause-long c = long

pub returns-clause-arms : goal.returns-clause-arms
returns-clause-arms c = arms_by_draws

pub returns-clause-ended : goal.returns-clause-ended
returns-clause-ended c = ended
