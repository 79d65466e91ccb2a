use Rattle.std.proofs.lemmas.Result.{err_from_is_err_and}
use Rattle.rv_hunt.proofs.MadeLemmas.{no_write}
use Rattle.rv_hunt.proofs.engine.making.make_hunt.Goals as goal

pub returns-in-Ok-clause-made : goal.returns-in-Ok-clause-made
returns-in-Ok-clause-made g c = rw (c.hunt-hunt.ensures, c.deref.ensures.value, c.look.ensures.wanted, c.look_at_file.ensures.wanted, c.look_at_file-3.ensures.wanted, c.in_ok-saw.ensures.right, c.in_ok-noted.ensures, c.in_ok-right.ensures) at c.in-Ok.ensures.made

pub returns-clause-failed : goal.returns-clause-failed
returns-clause-failed g c = λ writes. no_write c.in-Err.fault c.from.result c.from.ensures writes

pub returns-in_err-saw-clause-failed : goal.returns-in_err-saw-clause-failed
returns-in_err-saw-clause-failed g c = λ writes.
    let p = err_from_is_err_and c.from_residual-in_err-saw.result c.from_residual-in_err-saw.ensures.1 in
    no_write c.in_err-saw.field-0.0 p.0 p.2 (rw p.1 at writes)
