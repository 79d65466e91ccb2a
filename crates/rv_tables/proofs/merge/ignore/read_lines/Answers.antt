use Rattle.std.proofs.Common.{◌≡◌, ◌∙◌, Option, Some, None, ap, sym}
use Rattle.rv_tables.specs.declared.merge.fault.IgnoreFault.{IgnoreFault}
use Rattle.rv_tables.specs.internal.Shaped.{ended, judged, unknown_in}
use Rattle.rv_tables.specs.merge.FileFault.{told_ignore}
use Rattle.rv_tables.specs.merge.Ignore.{are_known, naming_of}
use Rattle.rv_tables.proofs.IgnoreLemmas.{judged_fault, judged_known, judged_unknown}
use Rattle.rv_tables.proofs.merge.ignore.read_lines.Goals as goal

pub returns-in-Some-clause-err : goal.returns-in-Some-clause-err
returns-in-Some-clause-err c =
    let lines = c.in_ok-lines.field-0.lines.items in
    let unknown : unknown_in (are_known (naming_of c.args.image.now c.args.source.now)) lines ≡ Some c.in-Some.line =
    ap (unknown_in (are_known (naming_of c.args.image.now c.args.source.now))) (sym c.deref.ensures.value) ∙ sym c.in_ok-line.ensures ∙ c.in-Some.is in
    ap told_ignore (c.in_ok-lines.ensures (are_known (naming_of c.args.image.now c.args.source.now)) ∙ judged_unknown (are_known (naming_of c.args.image.now c.args.source.now)) lines (ended c.in_ok-lines.field-0.fault) c.in-Some.line unknown)

pub returns-in-Some-fault-clause-err : goal.returns-in-Some-fault-clause-err
returns-in-Some-fault-clause-err c =
    let lines = c.in_ok-lines.field-0.lines.items in
    let none : unknown_in (are_known (naming_of c.args.image.now c.args.source.now)) lines ≡ None =
    ap (unknown_in (are_known (naming_of c.args.image.now c.args.source.now))) (sym c.deref.ensures.value) ∙ sym c.in_ok-line.ensures ∙ c.in_default.is in
    ap told_ignore
    (c.in_ok-lines.ensures (are_known (naming_of c.args.image.now c.args.source.now)) ∙ ap (λ (f : Option IgnoreFault). judged (are_known (naming_of c.args.image.now c.args.source.now)) lines (ended f)) c.in-Some-fault.is ∙ judged_fault (are_known (naming_of c.args.image.now c.args.source.now)) lines c.in-Some-fault.fault none)

pub returns-in-None-clause-ok : goal.returns-in-None-clause-ok
returns-in-None-clause-ok c =
    let lines = c.in_ok-lines.field-0.lines.items in
    let none : unknown_in (are_known (naming_of c.args.image.now c.args.source.now)) lines ≡ None =
    ap (unknown_in (are_known (naming_of c.args.image.now c.args.source.now))) (sym c.deref.ensures.value) ∙ sym c.in_ok-line.ensures ∙ c.in_default.is in
    c.in_ok-lines.ensures (are_known (naming_of c.args.image.now c.args.source.now)) ∙ ap (λ (f : Option IgnoreFault). judged (are_known (naming_of c.args.image.now c.args.source.now)) lines (ended f)) c.in-None.is ∙ judged_known (are_known (naming_of c.args.image.now c.args.source.now)) lines none
