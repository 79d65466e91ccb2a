use Rattle.std.proofs.Common.{refl}
use Rattle.std.proofs.lemmas.Result.{err_from_is_err_and}
use Rattle.rv_collide.specs.Numbers.{numbers}
use Rattle.rv_collide.specs.Stored.{stored}
use Rattle.rv_memory.specs.Flagged as flag
use Rattle.rv_engines.proofs.ExhibitLemmas.{certificate_of, exhibit_refused, files_refused}
use Rattle.rv_engines.proofs.ReplayLemmas.{image_refused, run_known, schedule_refused}
use Rattle.rv_engines.proofs.exhibit.engine.read_exhibit.Goals as goal

pub returns-in_err-contents-clause-err : goal.returns-in_err-contents-clause-err
returns-in_err-contents-clause-err g c =
    let p = err_from_is_err_and c.from_residual.result c.from_residual.ensures.1 in
    rw (p.1, p.2) (files_refused _ _ c.args.number c.in_err-contents.field-0.0 (image_refused (g.R.Read.remaining (flag.device c.args.image.now)) (g.Q.Read.remaining (flag.device c.args.schedule.now)) c.in_err-contents.field-0.0 c.in_err-contents.ensures.err))

pub returns-in_err-plan-clause-err : goal.returns-in_err-plan-clause-err
returns-in_err-plan-clause-err g c =
    let p = err_from_is_err_and c.from_residual-in_err-plan.result c.from_residual-in_err-plan.ensures.1 in
    rw (p.1, p.2) (files_refused _ _ c.args.number c.in_err-plan.field-0.0 (schedule_refused (g.R.Read.remaining (flag.device c.args.image.now)) (g.Q.Read.remaining (flag.device c.args.schedule.now)) c.in_ok-contents.contents c.in_err-plan.field-0.0 c.in_ok-contents.ensures.ok c.in_err-plan.ensures.err))

pub returns-in-Ok-clause-ok : goal.returns-in-Ok-clause-ok
returns-in-Ok-clause-ok g c =
    let image = g.R.Read.remaining (flag.device c.args.image.now) in
    let schedule = g.Q.Read.remaining (flag.device c.args.schedule.now) in
    let run = stored c.in_ok-contents.contents (numbers c.in_ok-plan.plan) c.in_ok-plan.entries.items in
    certificate_of image schedule run c.args.number c.in-Ok.shown
    (run_known image schedule c.in_ok-contents.contents (record { numbers = numbers c.in_ok-plan.plan; entries = c.in_ok-plan.entries.items }) run c.in_ok-contents.ensures.ok c.in_ok-plan.ensures.ok refl)
    (rw (← c.deref.ensures.value) c.in-Ok.ensures.ok) c.in-Ok.ensures.side_by_side

pub returns-clause-err : goal.returns-clause-err
returns-clause-err g c =
    let image = g.R.Read.remaining (flag.device c.args.image.now) in
    let schedule = g.Q.Read.remaining (flag.device c.args.schedule.now) in
    let run = stored c.in_ok-contents.contents (numbers c.in_ok-plan.plan) c.in_ok-plan.entries.items in
    exhibit_refused image schedule run c.args.number c.in-Err.fault c.from.result
    (run_known image schedule c.in_ok-contents.contents (record { numbers = numbers c.in_ok-plan.plan; entries = c.in_ok-plan.entries.items }) run c.in_ok-contents.ensures.ok c.in_ok-plan.ensures.ok refl)
    (rw (← c.deref.ensures.value) c.in-Err.ensures.err) c.from.ensures
