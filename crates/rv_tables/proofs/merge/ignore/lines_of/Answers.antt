use Rattle.std.proofs.Common.{Bool, Option, true, ap, ◌∙◌}
use Rattle.rv_tables.specs.declared.merge.fault.IgnoreFault.{IgnoreFault}
use Rattle.rv_tables.specs.declared.merge.ignore.Line.{Line}
use Rattle.rv_tables.specs.internal.Shaped.{ended, judged}
use Rattle.rv_tables.specs.merge.FileFault.{told_ignore}
use Rattle.rv_tables.proofs.IgnoreLemmas.{judged_fault, judged_known, none_unknown}
use Rattle.rv_tables.proofs.merge.ignore.lines_of.Goals as goal

abbrev every : Line → Bool
every line = true

pub returns-in-Some-clause-err : goal.returns-in-Some-clause-err
returns-in-Some-clause-err c =
    let lines = c.in_ok-lines.field-0.lines.items in
    ap told_ignore
    (c.in_ok-lines.ensures every ∙ ap (λ (f : Option IgnoreFault). judged every lines (ended f)) c.in-Some.is ∙ judged_fault every lines c.in-Some.fault (none_unknown lines))

pub returns-in-None-clause-ok : goal.returns-in-None-clause-ok
returns-in-None-clause-ok c =
    let lines = c.in_ok-lines.field-0.lines.items in
    c.in_ok-lines.ensures every ∙ ap (λ (f : Option IgnoreFault). judged every lines (ended f)) c.in-None.is ∙ judged_known every lines (none_unknown lines)
