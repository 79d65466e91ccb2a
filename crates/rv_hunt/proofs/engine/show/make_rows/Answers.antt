use Rattle.std.proofs.Common.{Result, subst, sym}
use Rattle.std.specs.Prelude.{IfErr}
use Rattle.std.proofs.lemmas.Result.{err_from_is_err_and}
use Rattle.rv_hunt.proofs.TableLemmas.{remake_runs}
use Rattle.rv_hunt.specs.declared.engine.making.Made.{Made}
use Rattle.rv_hunt.specs.declared.engine.show.ShowFault.{ShowFault}
use Rattle.rv_hunt.specs.internal.Remaking.{IsRunFault}
use Rattle.rv_hunt.proofs.engine.show.make_rows.Goals as goal

pub returns-in_err-rows-clause-err : goal.returns-in_err-rows-clause-err
returns-in_err-rows-clause-err g c =
    let p = err_from_is_err_and c.from_residual-in_err-rows.result c.from_residual-in_err-rows.ensures.1 in
    subst (λ (r : Result Made ShowFault). IfErr r IsRunFault) (sym p.1) (subst IsRunFault (sym p.2) (remake_runs c.in_err-rows.field-0.0))
