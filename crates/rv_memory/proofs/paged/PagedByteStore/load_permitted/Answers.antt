use Rattle.std.proofs.Common.{◌∙◌, sym}
use Rattle.rv_memory.proofs.Lie.{permits_is, skips_in, held_at, lie_in, permitted_lies}
use Rattle.rv_memory.proofs.paged.PagedByteStore.load_permitted.Goals as goal

pub find_permitted-requires : goal.find_permitted-requires
find_permitted-requires c =
    rw c.deref-3.ensures.value (skips_in c.self.inside.tables.items _ c.first_of-first.result c.args.address c.args.size c.args.need c.self.invariant.index c.ranges.address.fits (rw (c.deref-2.ensures.value, c.deref.ensures) at c.first_of-first.ensures))

pub load-requires-clause-lies : goal.load-requires-clause-lies
load-requires-clause-lies c =
    let tables = c.self.inside.tables.items in
    let below = rw c.deref-3.ensures.value at c.in-Some.ensures.within in
    let holds = rw c.deref-3.ensures.value at c.in-Some.ensures.holds in
    let held = held_at tables c.in-Some.found c.index-table.result.now c.args.address c.args.size holds c.index-table.ensures in
    lie_in tables c.in-Some.found c.index-table.result.now c.args.address c.args.size c.self.invariant.sound below c.index-table.ensures held

pub returns-in-None-clause-value : goal.returns-in-None-clause-value
returns-in-None-clause-value c =
    let tables = c.self.inside.tables.items in
    let none = permits_is tables c.args.address c.args.size c.args.need ∙ sym (rw c.deref-3.ensures.value at c.in-None.ensures.permitted) in
    rw (← c.self.view_is) (rw none)

pub returns-in-Some-clause-value : goal.returns-in-Some-clause-value
returns-in-Some-clause-value c =
    let tables = c.self.inside.tables.items in
    let below = rw c.deref-3.ensures.value at c.in-Some.ensures.within in
    let holds = rw c.deref-3.ensures.value at c.in-Some.ensures.holds in
    let held = held_at tables c.in-Some.found c.index-table.result.now c.args.address c.args.size holds c.index-table.ensures in
    let permitted = sym (rw c.deref-3.ensures.value at c.in-Some.ensures.permitted) in
    rw (← c.self.view_is) (sym (permitted_lies tables c.in-Some.found c.index-table.result.now c.args.address c.args.size c.load.result c.args.need c.self.invariant.sound below c.index-table.ensures held permitted c.load.ensures.value))
