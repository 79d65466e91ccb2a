use Rattle.std.proofs.Common.{◌∙◌, [], ap}
use Rattle.std.proofs.lemmas.Result.{err_from_is_err_and}
use Rattle.rv_tables.specs.HuntRead as spec
use Rattle.rv_tables.proofs.ReadLemmas.{counted_err, counted_ok, read_lines, table_refused, told_of, told_rows}
use Rattle.rv_tables.proofs.reading.read_into.Goals as goal

pub returns-in-Err-clause-err : goal.returns-in-Err-clause-err
returns-in-Err-clause-err c =
    rw c.at.ensures (read_lines c.args.format c.args.text.now c.of-lines.result c.of-lines.ensures ∙ table_refused c.args.format c.of-lines.result c.in-Err.kind c.in-Err.ensures.err)

pub returns-in_err-read_rows-clause-err : goal.returns-in_err-read_rows-clause-err
returns-in_err-read_rows-clause-err c =
    let fault = c.in_err-read_rows.field-0.0 in
    let rows = told_of _ _ c.in_err-read_rows.field-0.0 (ap (spec.rows_in c.args.format []) c.in-Ok.ensures.rest) (rw c.requires at c.in_err-read_rows.ensures.err) in
    let told = told_of _ _ c.in_err-read_rows.field-0.0 (read_lines c.args.format c.args.text.now c.of-lines.result c.of-lines.ensures) (told_rows c.args.format c.of-lines.result c.in-Ok.front.0 fault c.in-Ok.ensures.said rows) in
    let p = err_from_is_err_and c.from_residual.result c.from_residual.ensures.1 in
    rw (p.1, p.2) told

pub returns-clause-ok : goal.returns-clause-ok
returns-clause-ok c =
    counted_ok c.args.format c.args.text.now c.of-lines.result c.in-Ok.front.0 c.read_rows.new.rows c.counted.result c.of-lines.ensures c.in-Ok.ensures.said (ap (spec.rows_in c.args.format []) c.in-Ok.ensures.rest ∙ rw c.requires at c.in_ok-read_rows.ensures.ok)
    c.counted.ensures.count

pub returns-clause-err : goal.returns-clause-err
returns-clause-err c =
    counted_err c.args.format c.args.text.now c.of-lines.result c.in-Ok.front.0 c.read_rows.new.rows c.counted.result c.of-lines.ensures c.in-Ok.ensures.said (ap (spec.rows_in c.args.format []) c.in-Ok.ensures.rest ∙ rw c.requires at c.in_ok-read_rows.ensures.ok)
    c.counted.ensures.other c.counted.ensures.err
