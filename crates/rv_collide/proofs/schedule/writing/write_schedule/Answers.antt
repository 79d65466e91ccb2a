use Rattle.rv_collide.specs.Numbers.{numbers}
use Rattle.rv_collide.proofs.GrammarLemmas.{schedule_written_then}
use Rattle.rv_collide.proofs.schedule.writing.write_schedule.Goals as goal

pub returns-clause-ok : goal.returns-clause-ok
returns-clause-ok g c =
    schedule_written_then (numbers c.args.plan.now) c.args.entries.now c.put-2.result _ _ _ _ _ c.in_ok-put.ensures.ok c.in_ok-write_plan.ensures.ok c.in_ok-write_entries.ensures.ok c.put-2.ensures.ok
