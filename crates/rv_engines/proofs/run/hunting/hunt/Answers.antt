use Rattle.std.proofs.Common.{refl, rules}
use Rattle.std.proofs.lemmas.Result.{err_from_is_err_and}
use Rattle.rv_memory.specs.Flagged as flag
use Rattle.rv_engines.specs.Request.{request}
use Rattle.rv_faults.specs.CommandFault.{refusal}
use Rattle.rv_engines.specs.internal.Hunted.{IsReady}
use Rattle.rv_engines.proofs.RunHunts.{campaign_known, image_refused, names_refused, numbers_refused, skip_refused}
use Rattle.rv_engines.proofs.RunKept.{how_many, ready}
use Rattle.rv_engines.proofs.run.hunting.hunt.Goals as goal

pub returns-in_err-contents-clause-err : goal.returns-in_err-contents-clause-err
returns-in_err-contents-clause-err g c =
    let p = err_from_is_err_and c.from_residual.result c.from_residual.ensures.1 in
    rw p.1 (image_refused (g.R.Read.remaining (flag.device c.args.image.now)) (request c.args.options.now) c.in_err-contents.field-0.0 _ p.2 c.in_err-contents.ensures.err)

pub returns-in_err-excluded-clause-err : goal.returns-in_err-excluded-clause-err
returns-in_err-excluded-clause-err g c =
    let p = err_from_is_err_and c.from_residual-in_err-excluded.result c.from_residual-in_err-excluded.ensures.1 in
    rw (p.1, p.2) (skip_refused (g.R.Read.remaining (flag.device c.args.image.now)) (request c.args.options.now) c.in_ok-contents.contents (refusal c.in_err-excluded.field-0.0) c.in_err-excluded.ensures.thread c.in_ok-contents.ensures.ok c.in_err-excluded.ensures.err)

pub returns-in_err-ranges-clause-err : goal.returns-in_err-ranges-clause-err
returns-in_err-ranges-clause-err g c =
    let p = err_from_is_err_and c.from_residual-in_err-ranges.result c.from_residual-in_err-ranges.ensures.1 in
    rw (p.1, p.2) (names_refused (g.R.Read.remaining (flag.device c.args.image.now)) (request c.args.options.now) c.in_ok-contents.contents c.in_ok-excluded.excluded.items (refusal c.in_err-ranges.field-0.0) c.in_err-ranges.ensures.thread c.in_ok-contents.ensures.ok c.in_ok-excluded.ensures.ok c.in_err-ranges.ensures.err)

pub returns-in_err-ended-clause-err : goal.returns-in_err-ended-clause-err
returns-in_err-ended-clause-err g c =
    let p = err_from_is_err_and c.from_residual-in_err-ended.result c.from_residual-in_err-ended.ensures.1 in
    rw p.1 (numbers_refused (g.R.Read.remaining (flag.device c.args.image.now)) (request c.args.options.now) c.in_ok-contents.contents c.in_ok-excluded.excluded.items c.in_ok-ranges.ranges c.in_err-ended.field-0.0 _ p.2 c.in_ok-contents.ensures.ok c.in_ok-excluded.ensures.ok c.in_ok-ranges.ensures.ok c.in_err-ended.ensures.err)

pub returns-clause-ok : goal.returns-clause-ok
returns-clause-ok g c =
    campaign_known (g.R.Read.remaining (flag.device c.args.image.now)) (request c.args.options.now) c.in_ok-contents.contents c.in_ok-excluded.excluded.items c.in_ok-ranges.ranges (IsReady (request c.args.options.now) _) c.in_ok-contents.ensures.ok c.in_ok-excluded.ensures.ok c.in_ok-ranges.ensures.ok c.in_ok-ended.ensures.accepted
    (ready (request c.args.options.now) _ c.in_ok-ranges.ranges _ _ _ _ c.deref.ensures.value refl c.deref-2.ensures.value c.in_ok-ended.ensures.ok c.in_ok-table.ensures)

pub table_of-requires : goal.table_of-requires
table_of-requires g c = (search rules, rw c.deref-2.ensures.value (how_many _ c.args.options.now.runs c.in_ok-ended.ended.items c.in_ok-ended.ensures.ok))
