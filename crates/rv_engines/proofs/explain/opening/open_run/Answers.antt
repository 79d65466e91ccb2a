use Rattle.std.proofs.lemmas.Result.{err_from_is_err_and}
use Rattle.rv_collide.specs.Stored.{stored}
use Rattle.rv_memory.specs.Flagged as flag
use Rattle.rv_engines.specs.Asking.{asking}
use Rattle.rv_faults.specs.CommandFault.{refusal}
use Rattle.rv_engines.proofs.ExplainLemmas.{files_refused, names_refused}
use Rattle.rv_engines.proofs.explain.opening.open_run.Goals as goal

pub returns-in_err-files-clause-err : goal.returns-in_err-files-clause-err
returns-in_err-files-clause-err g c =
    let p = err_from_is_err_and c.from_residual.result c.from_residual.ensures.1 in
    rw p.1 (files_refused (g.R.Read.remaining (flag.device c.args.image.now)) (g.Q.Read.remaining (flag.device c.args.schedule.now)) c.args.draws (asking c.args.options.now) c.in_err-files.field-0.0 _ p.2 c.in_err-files.ensures.err)

pub returns-in_err-ranges-clause-err : goal.returns-in_err-ranges-clause-err
returns-in_err-ranges-clause-err g c =
    let p = err_from_is_err_and c.from_residual-in_err-ranges.result c.from_residual-in_err-ranges.ensures.1 in
    let files = c.in_ok-files.files in
    rw (p.1, p.2) (names_refused (g.R.Read.remaining (flag.device c.args.image.now)) (g.Q.Read.remaining (flag.device c.args.schedule.now)) c.args.draws (asking c.args.options.now)
    (stored files.session.image files.session.plan files.session.entries) files.image (refusal c.in_err-ranges.field-0.0) c.in_ok-files.ensures.ok c.in_ok-files.ensures.image c.in_ok-files.ensures.legal c.in_err-ranges.ensures.thread c.in_err-ranges.ensures.err)
