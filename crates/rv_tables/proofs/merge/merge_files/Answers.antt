use Rattle.std.proofs.Common.{length}
use Rattle.std.proofs.lemmas.Result.{err_from_is_err_and}
use Rattle.rv_tables.specs.merge.Merge as spec
use Rattle.rv_tables.proofs.MergedFileLemmas.{all_merged, count_known, expected_refused, nothing_more, tables_refused}
use Rattle.rv_tables.proofs.merge.merge_files.Goals as goal

pub returns-in_err-whole-clause-err : goal.returns-in_err-whole-clause-err
returns-in_err-whole-clause-err g c =
    let p = err_from_is_err_and c.from_residual.result c.from_residual.ensures.1 in
    rw (p.1, p.2) (tables_refused c.args.gaps (spec.bytes_of g.R.Read.remaining c.args.tables.now) (spec.bytes_if g.R.Read.remaining c.args.expected.now) c.in_err-whole.field-0.0 c.in_err-whole.ensures.err)

pub returns-in_err-expected-clause-err : goal.returns-in_err-expected-clause-err
returns-in_err-expected-clause-err g c =
    let p = err_from_is_err_and c.from_residual-in_err-expected.result c.from_residual-in_err-expected.ensures.1 in
    rw (p.1, p.2) (expected_refused c.args.gaps (spec.bytes_of g.R.Read.remaining c.args.tables.now) (spec.bytes_if g.R.Read.remaining c.args.expected.now) c.in_ok-whole.whole (length c.whole_in.new.tables) c.in_err-expected.field-0.0 c.in_ok-whole.ensures.ok
    (rw c.in_ok-whole.ensures.count (count_known g.R.Read.remaining c.args.tables.now)) c.in_err-expected.ensures.err)

pub returns-clause-ok : goal.returns-clause-ok
returns-clause-ok g c =
    let found = rw (c.deref.ensures.value, c.in_ok-rows.ensures) at c.in_ok-unexpected.ensures in
    rw (c.in_ok-rows.ensures) (all_merged c.args.gaps (spec.bytes_of g.R.Read.remaining c.args.tables.now) (spec.bytes_if g.R.Read.remaining c.args.expected.now) c.in_ok-whole.whole (length c.whole_in.new.tables) c.in_ok-expected.expected c.in_ok-unexpected.unexpected.items c.in_ok-whole.ensures.ok
    (rw c.in_ok-whole.ensures.count (count_known g.R.Read.remaining c.args.tables.now)) c.in_ok-expected.ensures.ok found)

pub returns-in_err-unexpected-clause-readers : goal.returns-in_err-unexpected-clause-readers
returns-in_err-unexpected-clause-readers g c =
    let p = err_from_is_err_and c.from_residual-in_err-unexpected.result c.from_residual-in_err-unexpected.ensures.1 in
    rw (p.1, p.2, c.in_ok-whole.ensures.readers, c.in_ok-expected.ensures.reader) (nothing_more _ _)
