use Rattle.std.proofs.Common.{rules}
use Rattle.std.proofs.lemmas.Fn.{filter_same}
use Rattle.rv_drive.proofs.ahead.Ahead.hold.Goals as goal

pub returns-clause-able : goal.returns-clause-able
returns-clause-able c = filter_same _ _ _ (λ x b f' k. search rules) _ _ c.retain.ensures.filtered
