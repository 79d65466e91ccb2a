use Rattle.rv_explain.proofs.order.OrderTrials.note.Goals as goal

pub returns-then-is_none-clause-kept : goal.returns-then-is_none-clause-kept
returns-then-is_none-clause-kept c s numbers number among is kept =
    record { ends = record { number = number; among = among; is = is; difference_is = c.in-Ends.is }; memory = kept.memory }

pub returns-then-is_none-2-clause-kept : goal.returns-then-is_none-2-clause-kept
returns-then-is_none-2-clause-kept c s numbers number among is kept =
    record { ends = kept.ends; memory = record { number = number; among = among; trial = c.args.trial; is = is; difference_is = c.in-Memory.is } }
