use Rattle.std.proofs.Common.{◌≡◌, ◌∙◌, true, false, Err, ap, sym, arith, rules, nat_lt}
use Rattle.std.specs.Str.{bytes_eq}
use Rattle.std.proofs.lemmas.Bool.Decides.{nat_tests}
use Rattle.rv_text.specs.Pieces.{pieces_of}
use Rattle.rv_collide.specs.Grammar.{end_line}
use Rattle.rv_collide.specs.ScheduleRead.{is_over}
use Rattle.rv_collide.proofs.CutLemmas.{over_where_empty}
use Rattle.rv_collide.proofs.EntriesLemmas.{no_line, at_end, after_end, no_entry, too_many, one_more}
use Rattle.rv_collide.proofs.schedule.reading.next_entry.Goals as goal

pub returns-in-Err-clause-err : goal.returns-in-Err-clause-err
returns-in-Err-clause-err c = no_line c.args.format c.args.number c.args.room (pieces_of 10 c.args.text.now) c.in-Err.kind c.in-Err.ensures.err ∙ ap Err (sym c.at.ensures)

pub returns-then-is_empty-clause-end : goal.returns-then-is_empty-clause-end
returns-then-is_empty-clause-end c =
    let line = c.in-Ok.parts.0.now in
    let rest = c.in-Ok.parts.1.now in
    let same : bytes_eq line end_line ≡ true = search rules in
    let over : is_over (pieces_of 10 rest) ≡ true = over_where_empty rest ∙ sym c.if-is_empty.ensures in
    at_end c.args.format c.args.number c.args.room (pieces_of 10 c.args.text.now) line (pieces_of 10 rest) c.in-Ok.ensures.rest c.in-Ok.ensures.line same over

pub returns-else-is_empty-clause-err : goal.returns-else-is_empty-clause-err
returns-else-is_empty-clause-err c =
    let line = c.in-Ok.parts.0.now in
    let rest = c.in-Ok.parts.1.now in
    let same : bytes_eq line end_line ≡ true = search rules in
    let over : is_over (pieces_of 10 rest) ≡ false = over_where_empty rest ∙ sym c.if-is_empty.ensures in
    after_end c.args.format c.args.number c.args.room (pieces_of 10 c.args.text.now) line (pieces_of 10 rest) c.in-Ok.ensures.rest c.in-Ok.ensures.line same over ∙ ap Err (sym c.at-else-is_empty.ensures)

pub returns-in-None-clause-err : goal.returns-in-None-clause-err
returns-in-None-clause-err c =
    let line = c.in-Ok.parts.0.now in
    let other : bytes_eq line end_line ≡ false = search rules in
    no_entry c.args.format c.args.number c.args.room (pieces_of 10 c.args.text.now) line (pieces_of 10 c.in-Ok.parts.1.now) c.in-Ok.ensures.rest c.in-Ok.ensures.line other (sym c.in-None.ensures) ∙ ap Err (sym c.at-in-None.ensures)

pub returns-in-Some-clause-err : goal.returns-in-Some-clause-err
returns-in-Some-clause-err c =
    let line = c.in-Ok.parts.0.now in
    let other : bytes_eq line end_line ≡ false = search rules in
    let full : nat_lt 0 c.args.room ≡ false = grind (arith, nat_tests) in
    too_many c.args.format c.args.number c.args.room (pieces_of 10 c.args.text.now) line (pieces_of 10 c.in-Ok.parts.1.now) c.in-Ok.ensures.rest c.in-Ok.ensures.line c.in-Some.field-0 other (sym c.in-Some.ensures) full
    ∙ ap Err (sym c.at-in-Some.ensures)

pub returns-in-Some-2-clause-more : goal.returns-in-Some-2-clause-more
returns-in-Some-2-clause-more c =
    let line = c.in-Ok.parts.0.now in
    let other : bytes_eq line end_line ≡ false = search rules in
    let some : nat_lt 0 c.args.room ≡ true = grind (arith, nat_tests) in
    one_more c.args.format c.args.number c.args.room (pieces_of 10 c.args.text.now) line (pieces_of 10 c.in-Ok.parts.1.now) c.in-Ok.ensures.rest c.in-Ok.ensures.line c.in-Some.field-0 other (sym c.in-Some.ensures) some
