use Rattle.std.proofs.Common.{◌≡◌, List, ◌++◌, length, min, ap, sym, subst, ◌∙◌}
use Rattle.rv_collide.specs.declared.entry.Entry.{Entry}
use Rattle.rv_walk.specs.Walked.{entries_of}
use Rattle.rv_walk.proofs.PartLemmas.{short, whole_of}
use Rattle.rv_walk.proofs.probes.Part.whole.Goals as goal

pub joined-requires : goal.joined-requires
joined-requires c =
    short c.args.harts.now c.min-place.result (length c.args.self.probed.finished.entries.items) c.deref.result.now c.requires.short c.requires.few (c.deref.ensures.value ∙ c.in_ok-prefix.ensures)

pub returns : goal.returns
returns c =
    let least : c.min-place.result ≡ min c.args.self.place (length c.args.harts.now) = cc in
    whole_of c.args.self c.args.harts.now c.min-place.result c.deref.result.now c.joined.result least (c.deref.ensures.value ∙ c.in_ok-prefix.ensures) c.joined.ensures.entries c.joined.ensures.whole
