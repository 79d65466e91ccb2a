use Rattle.std.proofs.Common.{◌∙◌}
use Rattle.std.proofs.lemmas.Option.{slice_get-get_or}
use Rattle.rv_collide.specs.declared.entry.Entry.TheVariants.{Stepped}
use Rattle.rv_collide.proofs.ToldLemmas.{accessed_here, forced_here, one_more}
use Rattle.rv_collide.proofs.told.advance.Goals as goal

pub add-requires : goal.add-requires
add-requires c =
    forced_here c.args.collider.now c.args.entries.now c.args.place _ c.requires.here (slice_get-get_or c.args.entries.now c.args.place (Stepped 0) c.requires.within) c.requires.legal

pub returns-clause-after : goal.returns-clause-after
returns-clause-after c =
    one_more c.args.collider.now c.args.entries.now c.args.place _ c.requires.here (slice_get-get_or c.args.entries.now c.args.place (Stepped 0) c.requires.within) c.add.new.collider c.add.ensures.after

pub returns-clause-access : goal.returns-clause-access
returns-clause-access c =
    c.add.ensures.access
    ∙ accessed_here c.args.collider.now c.args.entries.now c.args.place _ c.requires.here (slice_get-get_or c.args.entries.now c.args.place (Stepped 0) c.requires.within)
