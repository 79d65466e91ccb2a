use Rattle.std.proofs.Common.{sym, subst}
use Rattle.rv_memory.specs.internal.Flat.{IsFlat}
use Rattle.rv_memory.specs.declared.store.Need.TheVariants.{Nothing}
use Rattle.rv_memory.proofs.Lie.{skips_in, held_at, lie_in, new_same, new_ready}
use Rattle.rv_memory.proofs.paged.PagedByteStore.ready.Goals as goal

pub find_permitted-requires : goal.find_permitted-requires
find_permitted-requires c =
    rw c.deref-3.ensures.value (skips_in c.self.inside.tables.items _ c.first_of-first.result c.args.address c.args.size Nothing c.self.invariant.index c.ranges.address.fits (rw (c.deref-2.ensures.value, c.deref.ensures) at c.first_of-first.ensures))

pub ready-requires : goal.ready-requires
ready-requires c =
    let tables = c.self.inside.tables.items in
    let below = rw c.deref-3.ensures.value at c.in-Some.ensures.within in
    let holds = rw c.deref-3.ensures.value at c.in-Some.ensures.holds in
    let held = held_at tables c.in-Some.found c.index_mut-table.result.now c.args.address c.args.size holds c.index_mut-table.ensures.value in
    record { lies = lie_in tables c.in-Some.found c.index_mut-table.result.now c.args.address c.args.size c.self.invariant.sound below c.index_mut-table.ensures.value held }

pub invariant_of-self : goal.invariant_of-self
invariant_of-self c =
    let tables = c.self.inside.tables.items in
    let below = rw c.deref-3.ensures.value at c.in-Some.ensures.within in
    subst (λ m. IsFlat m c.self.inside.firsts.value.items) (sym (new_same tables c.in-Some.found c.index_mut-table.result.now c.ready.new.self below c.index_mut-table.ensures.value c.ready.ensures.rest c.ready.ensures.bytes)) c.self.invariant

pub invariant_of-self-in_err-ready : goal.invariant_of-self-in_err-ready
invariant_of-self-in_err-ready c =
    let tables = c.self.inside.tables.items in
    let below = rw c.deref-3.ensures.value at c.in-Some.ensures.within in
    subst (λ m. IsFlat m c.self.inside.firsts.value.items) (sym (new_same tables c.in-Some.found c.index_mut-table.result.now c.ready.new.self below c.index_mut-table.ensures.value c.ready.ensures.rest c.ready.ensures.bytes)) c.self.invariant

pub returns-in_err-ready-clause-same : goal.returns-in_err-ready-clause-same
returns-in_err-ready-clause-same c =
    let tables = c.self.inside.tables.items in
    let below = rw c.deref-3.ensures.value at c.in-Some.ensures.within in
    rw (← c.self.view_is) (new_same tables c.in-Some.found c.index_mut-table.result.now c.ready.new.self below c.index_mut-table.ensures.value c.ready.ensures.rest c.ready.ensures.bytes)

pub returns-in_ok-ready-clause-same : goal.returns-in_ok-ready-clause-same
returns-in_ok-ready-clause-same c =
    let tables = c.self.inside.tables.items in
    let below = rw c.deref-3.ensures.value at c.in-Some.ensures.within in
    rw (← c.self.view_is) (new_same tables c.in-Some.found c.index_mut-table.result.now c.ready.new.self below c.index_mut-table.ensures.value c.ready.ensures.rest c.ready.ensures.bytes)

pub returns-in_ok-ready-clause-ready : goal.returns-in_ok-ready-clause-ready
returns-in_ok-ready-clause-ready c =
    let tables = c.self.inside.tables.items in
    let below = rw c.deref-3.ensures.value at c.in-Some.ensures.within in
    let holds = rw c.deref-3.ensures.value at c.in-Some.ensures.holds in
    let held = held_at tables c.in-Some.found c.index_mut-table.result.now c.args.address c.args.size holds c.index_mut-table.ensures.value in
    new_ready tables c.in-Some.found c.index_mut-table.result.now c.ready.new.self c.args.address c.args.size c.self.invariant.sound below c.index_mut-table.ensures.value held c.ready.ensures.rest c.in_ok-ready.ensures.ready
