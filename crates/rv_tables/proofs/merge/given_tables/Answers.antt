use Rattle.std.proofs.Common.{◌∙◌, ◌<◌, length, refl, sym, arith, false}
use Rattle.std.proofs.lemmas.Grind.{common_steps}
use Rattle.std.proofs.lemmas.Option.{slice_get-get_or}
use Rattle.std.proofs.lemmas.Result.{err_from_is_err_and}
use Rattle.rv_tables.proofs.MergedFileLemmas.{all_added, at_start, behind, failed_set, none_failed, refused, step}
use Rattle.rv_tables.proofs.merge.given_tables.Goals as goal

pub loop-number-init : goal.loop-number-init
loop-number-init g c = rw c.new-given.ensures.items (refl, λ place most. refl, refl, at_start g.R.Read.remaining c.args.tables.now)

pub returns-in_err-add_file-clause-err : goal.returns-in_err-add_file-clause-err
returns-in_err-add_file-clause-err g c =
    let below : c.loop-number.number < length c.loop-number.tables = omega arith in
    let same = c.loop-number.invariant.1 c.loop-number.number (omega arith) in
    let here = slice_get-get_or c.loop-number.tables c.loop-number.number c.index-tables-number.result below in
    let p = err_from_is_err_and c.from_residual.result c.from_residual.ensures.1 in
    rw (p.1, p.2) (refused g.R.Read.remaining c.args.tables.now c.loop-number.number _ c.loop-number.given.items c.in_err-add_file.field-0.0 (sym same ∙ here) c.loop-number.invariant.3 c.in_err-add_file.ensures.err)

pub returns-in_err-add_file-clause-readers : goal.returns-in_err-add_file-clause-readers
returns-in_err-add_file-clause-readers g c =
    let below : c.loop-number.number < length c.loop-number.tables = omega arith in
    let here = slice_get-get_or c.loop-number.tables c.loop-number.number c.index-tables-number.result below in
    let p = err_from_is_err_and c.from_residual.result c.from_residual.ensures.1 in
    rw (p.1, p.2, ← c.loop-number.invariant.2) (failed_set c.loop-number.tables c.loop-number.number _ c.add_file.new.reader _ here c.in_err-add_file.ensures.reader)

pub loop-number-preserved : goal.loop-number-preserved
loop-number-preserved g c =
    let below : c.loop-number.number < length c.loop-number.tables = omega arith in
    let same = c.loop-number.invariant.1 c.loop-number.number (omega arith) in
    let here = slice_get-get_or c.loop-number.tables c.loop-number.number c.index-tables-number.result below in (
      grind (arith, common_steps),
      λ place most. behind c.loop-number.tables c.loop-number.number place c.add_file.new.reader (omega arith) ∙ c.loop-number.invariant.1 place (omega arith),
      failed_set c.loop-number.tables c.loop-number.number _ c.add_file.new.reader false here c.in_ok-add_file.ensures.reader ∙ none_failed _ ∙ c.loop-number.invariant.2,
      step g.R.Read.remaining c.args.tables.now c.loop-number.number _ c.loop-number.given.items c.add_file.new.tables.items (sym same ∙ here) c.loop-number.invariant.3 c.in_ok-add_file.ensures.ok,
    )

pub returns-clause-ok : goal.returns-clause-ok
returns-clause-ok g c = all_added g.R.Read.remaining c.args.tables.now c.loop-number.number c.loop-number.given.items (omega arith) c.loop-number.invariant.3
