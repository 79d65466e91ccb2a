use Rattle.std.proofs.Common.{◌≡◌, ◌∙◌, ◌∷◌, List, ℕ, None, Some, true, false, ap}
use Rattle.std.specs.Prelude.{slice_get}
use Rattle.std.proofs.lemmas.Result.{err_from_is_err_and}
use Rattle.rv_collide.specs.ScheduleRead.{is_over}
use Rattle.rv_tables.specs.HuntRead as spec
use Rattle.rv_tables.proofs.ReadLemmas.{first_and_others, none_left, rows_after_end, rows_cut, rows_end, rows_next, told_next, told_of}
use Rattle.rv_tables.proofs.reading.read_rows.Goals as goal

pub returns-in_err-cut_at-clause-err : goal.returns-in_err-cut_at-clause-err
returns-in_err-cut_at-clause-err c =
    let none : None ≡ slice_get c.lines.lines 0 = cc in
    let whole = c.lines.invariant ∙ ap (λ (ls : List (List ℕ)). spec.rows_in c.args.format c.lines.rows (c.lines.line.now ∷ ls)) (none_left c.lines.lines none) ∙ rows_cut c.args.format c.lines.rows c.lines.line.now in
    let told = told_of _ _ c.in_err-cut_at.field-0.0 whole c.in_err-cut_at.ensures.err in
    let p = err_from_is_err_and c.from_residual.result c.from_residual.ensures.1 in
    rw (p.1, p.2) told

pub returns-in_default-clause-ok : goal.returns-in_default-clause-ok
returns-in_default-clause-ok c =
    let none : None ≡ slice_get c.lines.lines 0 = cc in
    c.lines.invariant ∙ ap (λ (ls : List (List ℕ)). spec.rows_in c.args.format c.lines.rows (c.lines.line.now ∷ ls)) (none_left c.lines.lines none) ∙ rows_cut c.args.format c.lines.rows c.lines.line.now ∙ c.in_ok-cut_at.ensures.ok

pub returns-then-is_over-clause-ok : goal.returns-then-is_over-clause-ok
returns-then-is_over-clause-ok c =
    let first : Some c.in-Some.next.now ≡ slice_get c.lines.lines 0 = cc in
    let lines = first_and_others c.lines.lines c.next_piece.new.self c.in-Some.next.now first c.in-Some.ensures.rest in
    let stops : spec.ends c.args.format c.lines.line.now ≡ true = cc in
    let over : is_over (c.in-Some.next.now ∷ c.next_piece.new.self) ≡ true = cc in
    c.lines.invariant ∙ ap (λ (ls : List (List ℕ)). spec.rows_in c.args.format c.lines.rows (c.lines.line.now ∷ ls)) lines ∙ rows_end c.args.format c.lines.rows c.lines.line.now c.in-Some.next.now c.next_piece.new.self stops over

pub returns-then-ends-clause-err : goal.returns-then-ends-clause-err
returns-then-ends-clause-err c =
    let first : Some c.in-Some.next.now ≡ slice_get c.lines.lines 0 = cc in
    let lines = first_and_others c.lines.lines c.next_piece.new.self c.in-Some.next.now first c.in-Some.ensures.rest in
    let stops : spec.ends c.args.format c.lines.line.now ≡ true = cc in
    let over : is_over (c.in-Some.next.now ∷ c.next_piece.new.self) ≡ false = cc in
    rw (c.at.ensures, c.len.ensures.len)
    (c.lines.invariant ∙ ap (λ (ls : List (List ℕ)). spec.rows_in c.args.format c.lines.rows (c.lines.line.now ∷ ls)) lines ∙ rows_after_end c.args.format c.lines.rows c.lines.line.now c.in-Some.next.now c.next_piece.new.self stops over)

pub returns-in_err-add_line-clause-err : goal.returns-in_err-add_line-clause-err
returns-in_err-add_line-clause-err c =
    let first : Some c.in-Some.next.now ≡ slice_get c.lines.lines 0 = cc in
    let lines = first_and_others c.lines.lines c.next_piece.new.self c.in-Some.next.now first c.in-Some.ensures.rest in
    let goes : spec.ends c.args.format c.lines.line.now ≡ false = cc in
    let whole = c.lines.invariant ∙ ap (λ (ls : List (List ℕ)). spec.rows_in c.args.format c.lines.rows (c.lines.line.now ∷ ls)) lines in
    let told = told_of _ _ c.in_err-add_line.field-0.0 whole (told_next c.args.format c.lines.rows c.lines.line.now c.in-Some.next.now c.next_piece.new.self c.in_err-add_line.field-0.0 goes c.in_err-add_line.ensures.err) in
    let p = err_from_is_err_and c.from_residual-in_err-add_line.result c.from_residual-in_err-add_line.ensures.1 in
    rw (p.1, p.2) told

pub lines-preserved : goal.lines-preserved
lines-preserved c =
    let first : Some c.in-Some.next.now ≡ slice_get c.lines.lines 0 = cc in
    let lines = first_and_others c.lines.lines c.next_piece.new.self c.in-Some.next.now first c.in-Some.ensures.rest in
    let goes : spec.ends c.args.format c.lines.line.now ≡ false = cc in
    c.lines.invariant ∙ ap (λ (ls : List (List ℕ)). spec.rows_in c.args.format c.lines.rows (c.lines.line.now ∷ ls)) lines
    ∙ rows_next c.args.format c.lines.rows c.add_line.new.rows c.lines.line.now c.in-Some.next.now c.next_piece.new.self goes c.in_ok-add_line.ensures.ok
