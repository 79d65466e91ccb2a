use Rattle.rv_drive.proofs.DrivenLemmas.{adds_its_kind, due_is_resumed, able_takes_turn}
use Rattle.rv_drive.proofs.driver_laws.accepted_calls.Goals as goal

pub returns-clause-kind : goal.returns-clause-kind
returns-clause-kind c = adds_its_kind

pub returns-clause-due : goal.returns-clause-due
returns-clause-due c = due_is_resumed

pub returns-clause-able : goal.returns-clause-able
returns-clause-able c = able_takes_turn
