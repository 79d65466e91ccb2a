use Rattle.std.proofs.Common.{◌∙◌, ℕ, Err, List, ap, subst, sym}
use Rattle.std.proofs.lemmas.Result.{err_from_is_err_and}
use Rattle.rv_text.specs.Pieces.{pieces_of}
use Rattle.rv_collide.specs.Numbers.{numbers}
use Rattle.rv_collide.specs.ScheduleRead.{AreEntriesTo, is_of_text}
use Rattle.rv_collide.proofs.ScheduleLemmas.{after_plan, entry_there, header_fault, of_text_there, plan_fault, told, whole_read, whole_told}
use Rattle.rv_collide.proofs.schedule.reading.read_text.Goals as goal

pub returns-in-Err-clause-err : goal.returns-in-Err-clause-err
returns-in-Err-clause-err c = told (is_of_text c.at.result.kind) _ (header_fault c.args.text.now c.in-Err.kind c.in-Err.ensures.err ∙ ap Err (sym c.at.ensures))

pub returns-in-Err-read_plan_line-clause-err : goal.returns-in-Err-read_plan_line-clause-err
returns-in-Err-read_plan_line-clause-err c =
    told (is_of_text c.at-in-Err-read_plan_line.result.kind) _
    (plan_fault c.in-Ok.parts.0 c.args.text.now (pieces_of 10 c.in-Ok.parts.1.now) c.in-Err-read_plan_line.kind c.in-Ok.ensures.ok c.in-Ok.ensures.rest c.in-Err-read_plan_line.ensures.err ∙ ap Err (sym c.at-in-Err-read_plan_line.ensures))

pub returns-in_err-entries-clause-err : goal.returns-in_err-entries-clause-err
returns-in_err-entries-clause-err c =
    let parts = c.in-Ok-read_plan_line.parts in
    let fault = c.in_err-entries.field-0.0 in
    let told = whole_told c.in-Ok.parts.0 c.args.text.now (pieces_of 10 c.in-Ok.parts.1.now) (pieces_of 10 parts.1.now) (numbers parts.0) c.in-Ok.ensures.ok c.in-Ok.ensures.rest c.in-Ok-read_plan_line.ensures.ok
    c.in-Ok-read_plan_line.ensures.rest c.most_entries.result fault c.most_entries.ensures c.in_err-entries.ensures.err in
    let p = err_from_is_err_and c.from_residual.result c.from_residual.ensures.1 in
    rw (p.1, p.2) told

pub returns-clause-ok : goal.returns-clause-ok
returns-clause-ok c =
    let parts = c.in-Ok-read_plan_line.parts in
    whole_read c.in-Ok.parts.0 c.args.text.now (pieces_of 10 c.in-Ok.parts.1.now) (pieces_of 10 parts.1.now) (numbers parts.0) c.in-Ok.ensures.ok c.in-Ok.ensures.rest c.in-Ok-read_plan_line.ensures.ok
    c.in-Ok-read_plan_line.ensures.rest c.most_entries.result c.in_ok-entries.entries.items c.most_entries.ensures c.in_ok-entries.ensures.ok

pub returns-in-Err-clause-place : goal.returns-in-Err-clause-place
returns-in-Err-clause-place c = rw c.at.ensures (of_text_there c.args.text.now 1 c.in-Err.kind c.in-Err.ensures.told)

pub returns-in-Err-read_plan_line-clause-place : goal.returns-in-Err-read_plan_line-clause-place
returns-in-Err-read_plan_line-clause-place c = rw c.at-in-Err-read_plan_line.ensures (of_text_there c.args.text.now 2 c.in-Err-read_plan_line.kind c.in-Err-read_plan_line.ensures.told)

pub returns-in_err-entries-clause-place : goal.returns-in_err-entries-clause-place
returns-in_err-entries-clause-place c =
    let parts = c.in-Ok-read_plan_line.parts in
    let fault = c.in_err-entries.field-0.0 in
    let third = after_plan c.args.text.now (pieces_of 10 c.in-Ok.parts.1.now) (pieces_of 10 parts.1.now) c.in-Ok.ensures.rest c.in-Ok-read_plan_line.ensures.rest in
    let there = entry_there c.in-Ok.parts.0 c.args.text.now fault.line fault.kind c.in-Ok.ensures.ok c.in_err-entries.ensures.reader
    (λ memory. subst (λ (lines : List (List ℕ)). AreEntriesTo c.in-Ok.parts.0 lines fault.line) third (c.in_err-entries.ensures.memory memory)) in
    let p = err_from_is_err_and c.from_residual.result c.from_residual.ensures.1 in
    rw (p.1, p.2) there
