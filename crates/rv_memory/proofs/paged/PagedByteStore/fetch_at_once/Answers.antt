use Rattle.std.proofs.Common.{refl}
use Rattle.rv_memory.specs.declared.store.Need.TheVariants.{Execute}
use Rattle.rv_memory.proofs.Lie.{held_at, lie_in, permitted_lies}
use Rattle.rv_memory.proofs.paged.PagedByteStore.fetch_at_once.Goals as goal

pub load-requires-clause-lies : goal.load-requires-clause-lies
load-requires-clause-lies c =
    let tables = c.self.inside.tables.items in
    let below = rw c.deref.ensures.value at (c.if-permits_at.ensures.within refl) in
    let holds = rw c.deref.ensures.value at (c.if-permits_at.ensures.holds refl) in
    lie_in tables c.self.inside.code c.index-table.result.now c.args.address 4 c.self.invariant.sound below c.index-table.ensures (held_at tables c.self.inside.code c.index-table.result.now c.args.address 4 holds c.index-table.ensures)

pub returns-then-permits_at : goal.returns-then-permits_at
returns-then-permits_at c =
    let tables = c.self.inside.tables.items in
    let below = rw c.deref.ensures.value at (c.if-permits_at.ensures.within refl) in
    let holds = rw c.deref.ensures.value at (c.if-permits_at.ensures.holds refl) in
    let permitted = rw c.deref.ensures.value at (c.if-permits_at.ensures.permitted refl) in
    rw (← c.self.view_is) (permitted_lies tables c.self.inside.code c.index-table.result.now c.args.address 4 c.load.result Execute c.self.invariant.sound below c.index-table.ensures (held_at tables c.self.inside.code c.index-table.result.now c.args.address 4 holds c.index-table.ensures) permitted c.load.ensures.value)
