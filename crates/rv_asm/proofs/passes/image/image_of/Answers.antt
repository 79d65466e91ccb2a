use Rattle.std.proofs.Common.{rules}
use Rattle.rv_asm.proofs.ImageLemmas.{is_image_of}
use Rattle.rv_asm.proofs.passes.image.image_of.Goals as goal

pub image_with-requires : goal.image_with-requires
image_with-requires c =
    is_image_of c.args.labels c.args.sections.text.items c.args.sections.writable.items c.entry_of-entry.result c.in_ok-segments.segments.items c.in_ok-symbols.symbols.items
    c.requires
    (search rules)
    (search rules)
    (search rules)
    (c.in_ok-symbols.ensures {u = tt}).sound
