use Rattle.std.proofs.lemmas.Result.{err_from_is_err_and}
use Rattle.rv_engines.proofs.RunHunts.{file_failed}
use Rattle.rv_engines.proofs.run.engine.publish.Goals as goal

pub returns-in_err-save_run-clause-writers : goal.returns-in_err-save_run-clause-writers
returns-in_err-save_run-clause-writers g c =
    let p = err_from_is_err_and c.from_residual.result c.from_residual.ensures.1 in
    rw (p.1, p.2) (file_failed _ _ _ _ c.in_err-save_run.ensures.writer)
