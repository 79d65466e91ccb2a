use Rattle.std.specs.Prelude.{◌<◌}
use Rattle.std.proofs.lemmas.List.Elements.{All-filter}
use Rattle.rv_tables.specs.declared.merge.words.NamedSymbol.{NamedSymbol}
use Rattle.rv_tables.specs.internal.Words.{count, holds}
use Rattle.rv_tables.proofs.WordLemmas.{marks_at, named_within}
use Rattle.rv_tables.proofs.merge.words.marks_at.Goals as goal

pub marks_of-requires-2 : goal.marks_of-requires-2
marks_of-requires-2 c =
    rw (c.deref.ensures.value, c.in_ok-holding.ensures, c.count-2.ensures)
    (All-filter (holds c.in-Some.address) (λ (s : NamedSymbol). s.word < count c.args.words.now) c.args.named.now
    (named_within c.args.words.now c.requires.numbered c.args.symbols.now.image.symbols c.args.named.now c.requires.named))

pub returns-clause-marks : goal.returns-clause-marks
returns-clause-marks c = λ word number is.
    let marked = rw c.deref.ensures.value at c.in_ok-marks.ensures.marks in
    rw c.in-Some.is
    (marks_at c.args.words.now c.requires.numbered c.args.symbols.now.image c.in-Some.address c.args.named.now c.in_ok-holding.holding.items c.in_ok-marks.marks.items c.mark.new.marks.items c.in_ok-told_word.field-0
    c.requires.named c.in_ok-holding.ensures marked c.in_ok-told_word.ensures c.mark.ensures.marks word number is)
