use Rattle.rv_explain.proofs.order.OrderTrials.try_more.Goals as goal

pub returns-in-Some-clause-kept : goal.returns-in-Some-clause-kept
returns-in-Some-clause-kept c numbers among kept =
    c.note.ensures.kept c.args.machine.now.state numbers c.args.number among (rw c.in-Some.is at c.in_ok-trial.ensures.trial) kept
