use Rattle.std.proofs.Common.{◌∙◌}
use Rattle.rv_tables.proofs.SoughtLemmas.{first_unknown_is, known_more, lines_within}
use Rattle.rv_tables.specs.merge.Ignore.{lines_of, naming_of}
use Rattle.rv_tables.proofs.WordLemmas.{named_within}
use Rattle.rv_tables.proofs.merge.ignore.unknown_in.Goals as goal

pub marks_of-requires : goal.marks_of-requires
marks_of-requires c =
    let of = c.in_ok-names.ensures.of_image in
    rw (c.deref.ensures.value, c.count.ensures) (named_within c.in_ok-names.names.words of.numbered c.args.image.now.symbols c.in_ok-names.names.symbols.items of.symbols)

pub first_unknown-requires : goal.first_unknown-requires
first_unknown-requires c =
    let names = c.in_ok-names.ensures in
    rw (c.deref-2.ensures.value, c.deref-3.ensures.value)
    (lines_within c.in_ok-names.names.words names.of_image.numbered c.args.lines.now c.in_ok-names.names.lines.items names.sought _ (c.in_ok-mark_lines.ensures.count ∙ c.in_ok-known.ensures.count ∙ c.count.ensures))

pub returns : goal.returns
returns c =
    let names = c.in_ok-names.ensures in
    let marked = rw c.deref.ensures.value at c.in_ok-known.ensures.marks in
    c.first_unknown.ensures ∙ rw (c.deref-2.ensures.value, c.deref-3.ensures.value)
    (first_unknown_is c.in_ok-names.names (naming_of c.args.image.now c.args.source.now) names.of_image c.mark_lines.new.marks.items (known_more c.in_ok-names.names (lines_of c.args.source.now) c.in_ok-known.known.items c.mark_lines.new.marks.items marked c.in_ok-mark_lines.ensures.marks) c.args.lines.now c.in_ok-names.names.lines.items names.sought)
