use Rattle.std.proofs.Common.{List, Option, ap, ◌∙◌}
use Rattle.std.specs.Prelude.{unwrap_or}
use Rattle.rv_hart.specs.State.{with_stacks}
use Rattle.rv_memory.specs.Extent.{Extent}
use Rattle.rv_memory.specs.Memory.{fault_of}
use Rattle.rv_memory.specs.declared.store.MemFault.{MemFault}
use Rattle.rv_memory.specs.declared.store.MemFault.TheVariants.{NoMemory}
use Rattle.rv_collide.proofs.Fits.{fits}
use Rattle.rv_collide.proofs.collider.machine_of.Goals as goal

pub no_memory-requires : goal.no_memory-requires
no_memory-requires g c =
    let image = c.entry.ensures.valid in
    c.in-Err.ensures.err
    ∙ ap (λ (es : List Extent). unwrap_or (fault_of (with_stacks es c.args.harts)) NoMemory) c.segments-segments.ensures.value
    ∙ ap (λ (o : Option MemFault). unwrap_or o NoMemory) (fits c.args.image.now.entry c.args.image.now.segments c.args.harts image.segments c.requires.within)
