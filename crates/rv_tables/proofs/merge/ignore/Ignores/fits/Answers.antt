use Rattle.std.proofs.Common.{List, ap, sym, ◌∙◌}
use Rattle.rv_tables.specs.declared.merge.ignore.Line.{Line}
use Rattle.rv_tables.specs.merge.Ignore.{any_fits}
use Rattle.rv_tables.proofs.SoughtLemmas.{any_is, lines_within}
use Rattle.rv_tables.proofs.merge.ignore.Ignores.fits.Goals as goal

pub any_fits-requires-clause-first : goal.any_fits-requires-clause-first
any_fits-requires-clause-first c =
    let names = c.requires.2 in
    rw c.deref.ensures.value (lines_within c.args.names.now.words names.of_image.numbered c.requires.0 c.args.names.now.lines.items names.sought _ c.in_ok-places.ensures.first_is.count)

pub any_fits-requires-clause-second : goal.any_fits-requires-clause-second
any_fits-requires-clause-second c =
    let names = c.requires.2 in
    rw c.deref.ensures.value (lines_within c.args.names.now.words names.of_image.numbered c.requires.0 c.args.names.now.lines.items names.sought _ c.in_ok-places.ensures.second_is.count)

pub any_fits-requires-clause-on : goal.any_fits-requires-clause-on
any_fits-requires-clause-on c =
    let names = c.requires.2 in
    rw c.deref.ensures.value (lines_within c.args.names.now.words names.of_image.numbered c.requires.0 c.args.names.now.lines.items names.sought _ c.in_ok-places.ensures.on_is.count)

pub returns : goal.returns
returns c =
    let names = c.requires.2 in
    c.any_fits.ensures ∙ rw c.deref.ensures.value
    (any_is c.args.names.now c.args.symbols.now c.args.key.now c.args.on c.in_ok-places.places c.in_ok-places.ensures c.requires.0 c.args.names.now.lines.items names.sought)
    ∙ ap (λ (lines : List Line). any_fits c.args.symbols.now lines c.args.key.now c.args.on) (sym c.requires.1)
