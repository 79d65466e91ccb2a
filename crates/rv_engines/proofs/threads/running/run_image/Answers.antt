use Rattle.std.proofs.lemmas.Result.{err_from_is_err_and}
use Rattle.rv_memory.specs.Flagged as flag
use Rattle.rv_engines.proofs.ThreadsLemmas.{image_refused, threaded_is_writable}
use Rattle.rv_engines.proofs.threads.running.run_image.Goals as goal

pub returns-in-Ok-clause-writable : goal.returns-in-Ok-clause-writable
returns-in-Ok-clause-writable g c =
    threaded_is_writable c.legal_is_writable.ensures _ _ _ c.in-Ok.told c.in-Ok.ensures.ok

pub returns-in_err-contents-clause-err : goal.returns-in_err-contents-clause-err
returns-in_err-contents-clause-err g c =
    let p = err_from_is_err_and c.from_residual.result c.from_residual.ensures.1 in
    rw p.1 (image_refused (g.R.Read.remaining (flag.device c.args.image.now)) c.in_err-contents.field-0.0 _ p.2 c.in_err-contents.ensures.err)
