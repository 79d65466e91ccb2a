use Rattle.std.proofs.Common.{◌∙◌, sym, subst}
use Rattle.rv_memory.specs.Pages.{memory_in}
use Rattle.rv_memory.specs.internal.Flat.{IsFlat}
use Rattle.rv_memory.specs.declared.store.Need.TheVariants.{Nothing}
use Rattle.rv_memory.proofs.Lie.{permits_is, skips_in, held_at, lie_in, new_stored, flat_store}
use Rattle.rv_memory.proofs.paged.PagedByteStore.store.Goals as goal

pub find-found-requires-clause-some : goal.find-found-requires-clause-some
find-found-requires-clause-some c =
    rw c.deref-3.ensures.value (sym (permits_is c.self.inside.tables.items c.args.address c.args.size Nothing) ∙ rw (← c.self.view_is) at c.requires.within)

pub find-found-requires-clause-skips : goal.find-found-requires-clause-skips
find-found-requires-clause-skips c =
    rw c.deref-3.ensures.value (skips_in c.self.inside.tables.items _ c.first_of-first.result c.args.address c.args.size Nothing c.self.invariant.index c.ranges.address.fits (rw (c.deref-2.ensures.value, c.deref.ensures) at c.first_of-first.ensures))

pub store-requires-clause-lies : goal.store-requires-clause-lies
store-requires-clause-lies c =
    let tables = c.self.inside.tables.items in
    let below = rw c.deref-3.ensures.value at c.find-found.ensures.within in
    let holds = rw c.deref-3.ensures.value at c.find-found.ensures.holds in
    let held = held_at tables c.find-found.result c.index_mut-table.result.now c.args.address c.args.size holds c.index_mut-table.ensures.value in
    lie_in tables c.find-found.result c.index_mut-table.result.now c.args.address c.args.size c.self.invariant.sound below c.index_mut-table.ensures.value held

pub invariant_of-self : goal.invariant_of-self
invariant_of-self c =
    let tables = c.self.inside.tables.items in
    let below = rw c.deref-3.ensures.value at c.find-found.ensures.within in
    let holds = rw c.deref-3.ensures.value at c.find-found.ensures.holds in
    let held = held_at tables c.find-found.result c.index_mut-table.result.now c.args.address c.args.size holds c.index_mut-table.ensures.value in
    subst (λ m. IsFlat m c.self.inside.firsts.value.items) (sym (new_stored tables c.find-found.result c.index_mut-table.result.now c.store.new.self c.args.address c.args.size c.args.value c.self.invariant.sound below c.index_mut-table.ensures.value held c.store.ensures.rest c.store.ensures.put)) (flat_store (memory_in tables) _ c.args.address c.args.size c.args.value c.self.invariant)

pub returns-clause-stored : goal.returns-clause-stored
returns-clause-stored c =
    let tables = c.self.inside.tables.items in
    let below = rw c.deref-3.ensures.value at c.find-found.ensures.within in
    let holds = rw c.deref-3.ensures.value at c.find-found.ensures.holds in
    let held = held_at tables c.find-found.result c.index_mut-table.result.now c.args.address c.args.size holds c.index_mut-table.ensures.value in
    rw (← c.self.view_is) (new_stored tables c.find-found.result c.index_mut-table.result.now c.store.new.self c.args.address c.args.size c.args.value c.self.invariant.sound below c.index_mut-table.ensures.value held c.store.ensures.rest c.store.ensures.put)
