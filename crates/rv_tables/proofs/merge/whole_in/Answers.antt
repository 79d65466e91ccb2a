use Rattle.std.proofs.lemmas.Result.{err_from_is_err_and}
use Rattle.rv_tables.specs.merge.Merge as spec
use Rattle.rv_tables.proofs.MergedFileLemmas.{whole_is, whole_refused, whole_told}
use Rattle.rv_tables.proofs.merge.whole_in.Goals as goal

pub returns-in_err-given-clause-err : goal.returns-in_err-given-clause-err
returns-in_err-given-clause-err g c =
    let p = err_from_is_err_and c.from_residual.result c.from_residual.ensures.1 in
    rw (p.1, p.2) (whole_told (spec.bytes_of g.R.Read.remaining c.args.tables.now) c.in_err-given.field-0.0 c.in_err-given.ensures.err c.args.gaps)
