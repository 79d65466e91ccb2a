use Rattle.std.proofs.Common.{◌∙◌, sym}
use Rattle.rv_memory.specs.declared.store.Need.TheVariants.{Nothing}
use Rattle.rv_memory.proofs.Lie.{permits_is, skips_in, held_at, lie_in, load_lies}
use Rattle.rv_memory.proofs.paged.PagedByteStore.load.Goals as goal

pub find-requires-clause-some : goal.find-requires-clause-some
find-requires-clause-some c =
    rw c.deref-3.ensures.value (sym (permits_is c.self.inside.tables.items c.args.address c.args.size Nothing) ∙ rw (← c.self.view_is) at c.requires.within)

pub find-requires-clause-skips : goal.find-requires-clause-skips
find-requires-clause-skips c =
    rw c.deref-3.ensures.value (skips_in c.self.inside.tables.items _ c.first_of-first.result c.args.address c.args.size Nothing c.self.invariant.index c.ranges.address.fits (rw (c.deref-2.ensures.value, c.deref.ensures) at c.first_of-first.ensures))

pub load-requires-clause-lies : goal.load-requires-clause-lies
load-requires-clause-lies c =
    let tables = c.self.inside.tables.items in
    let below = rw c.deref-3.ensures.value at c.find.ensures.within in
    let holds = rw c.deref-3.ensures.value at c.find.ensures.holds in
    lie_in tables c.find.result c.index-table.result.now c.args.address c.args.size c.self.invariant.sound below c.index-table.ensures (held_at tables c.find.result c.index-table.result.now c.args.address c.args.size holds c.index-table.ensures)

pub returns-clause-value : goal.returns-clause-value
returns-clause-value c =
    let tables = c.self.inside.tables.items in
    let below = rw c.deref-3.ensures.value at c.find.ensures.within in
    let holds = rw c.deref-3.ensures.value at c.find.ensures.holds in
    rw (← c.self.view_is) (c.load.ensures.value ∙ sym (load_lies tables c.find.result c.index-table.result.now c.args.address c.args.size c.self.invariant.sound below c.index-table.ensures (held_at tables c.find.result c.index-table.result.now c.args.address c.args.size holds c.index-table.ensures)))
