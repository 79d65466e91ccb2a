use Rattle.std.proofs.lemmas.Result.{err_from_is_err_and}
use Rattle.rv_collide.specs.Numbers.{numbers}
use Rattle.rv_memory.specs.Flagged as flag
use Rattle.rv_engines.proofs.ReplayLemmas.{image_refused, schedule_refused, entry_refused, run_known}
use Rattle.rv_engines.proofs.replay.input.read_run.Goals as goal

pub returns-in_err-contents-clause-err : goal.returns-in_err-contents-clause-err
returns-in_err-contents-clause-err g c =
    let p = err_from_is_err_and c.from_residual.result c.from_residual.ensures.1 in
    rw (p.1, p.2) (image_refused (g.R.Read.remaining (flag.device c.args.image.now)) (g.Q.Read.remaining (flag.device c.args.schedule.now)) c.in_err-contents.field-0.0 c.in_err-contents.ensures.err)

pub returns-in_err-plan-clause-err : goal.returns-in_err-plan-clause-err
returns-in_err-plan-clause-err g c =
    let p = err_from_is_err_and c.from_residual-in_err-plan.result c.from_residual-in_err-plan.ensures.1 in
    rw (p.1, p.2) (schedule_refused (g.R.Read.remaining (flag.device c.args.image.now)) (g.Q.Read.remaining (flag.device c.args.schedule.now)) c.in_ok-contents.contents c.in_err-plan.field-0.0 c.in_ok-contents.ensures.ok c.in_err-plan.ensures.err)

pub returns-in-Ok-clause-ok : goal.returns-in-Ok-clause-ok
returns-in-Ok-clause-ok g c =
    run_known (g.R.Read.remaining (flag.device c.args.image.now)) (g.Q.Read.remaining (flag.device c.args.schedule.now)) c.in_ok-contents.contents (record { numbers = numbers c.in_ok-plan.plan; entries = c.in_ok-plan.entries.items })
    c.in-Ok.collider c.in_ok-contents.ensures.ok c.in_ok-plan.ensures.ok (rw (← c.deref.ensures.value) c.in-Ok.ensures.ok)

pub returns-clause-err : goal.returns-clause-err
returns-clause-err g c =
    entry_refused (g.R.Read.remaining (flag.device c.args.image.now)) (g.Q.Read.remaining (flag.device c.args.schedule.now)) c.in_ok-contents.contents (record { numbers = numbers c.in_ok-plan.plan; entries = c.in_ok-plan.entries.items })
    c.in-Err.fault c.from.result c.in_ok-contents.ensures.ok c.in_ok-plan.ensures.ok (rw (← c.deref.ensures.value) c.in-Err.ensures.err) c.from.ensures
