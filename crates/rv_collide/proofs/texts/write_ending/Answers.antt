use Rattle.rv_collide.proofs.EndingLemmas.{ending_written}
use Rattle.rv_collide.proofs.texts.write_ending.Goals as goal

pub returns-clause-ok : goal.returns-clause-ok
returns-clause-ok g c =
    ending_written c.args.number c.args.ending.now c.put-3.result _ _ _ _ _ _ _ _ c.in_ok-write_pause.ensures.ok c.in_ok-put.ensures.ok c.in_ok-write_slot.ensures.ok c.in_ok-put-2.ensures.ok
    c.in_ok-write_verdict.ensures.ok c.in_ok-write_values.ensures.ok c.put-3.ensures.ok
