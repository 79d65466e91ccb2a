use Rattle.std.proofs.Common.{◌∙◌, sym, subst, inl, inr}
use Rattle.std.proofs.lemmas.Bool.{cases_Bool}
use Rattle.rv_memory.specs.Pages.{memory_in}
use Rattle.rv_memory.specs.internal.Flat.{IsFlat}
use Rattle.rv_memory.proofs.Lie.{permits_is, skips_in, found_own, held_at, lie_in, new_stored, new_same, flat_store}
use Rattle.rv_memory.proofs.paged.PagedByteStore.store_permitted.Goals as goal

pub find_permitted-requires : goal.find_permitted-requires
find_permitted-requires c =
    rw c.deref-3.ensures.value (skips_in c.self.inside.tables.items _ c.first_of-first.result c.args.address c.args.size c.args.need c.self.invariant.index c.ranges.address.fits (rw (c.deref-2.ensures.value, c.deref.ensures) at c.first_of-first.ensures))

pub put_or_copy-requires-clause-lies : goal.put_or_copy-requires-clause-lies
put_or_copy-requires-clause-lies c =
    let tables = c.self.inside.tables.items in
    let below = rw c.deref-3.ensures.value at c.in-Some.ensures.within in
    let holds = rw c.deref-3.ensures.value at c.in-Some.ensures.holds in
    let held = held_at tables c.in-Some.found c.index_mut-table.result.now c.args.address c.args.size holds c.index_mut-table.ensures.value in
    lie_in tables c.in-Some.found c.index_mut-table.result.now c.args.address c.args.size c.self.invariant.sound below c.index_mut-table.ensures.value held

pub invariant_of-self : goal.invariant_of-self
invariant_of-self c =
    let tables = c.self.inside.tables.items in
    let below = rw c.deref-3.ensures.value at c.in-Some.ensures.within in
    let holds = rw c.deref-3.ensures.value at c.in-Some.ensures.holds in
    let held = held_at tables c.in-Some.found c.index_mut-table.result.now c.args.address c.args.size holds c.index_mut-table.ensures.value in
    elim (cases_Bool c.put_or_copy.result) [
      | inl h ↦ subst (λ m. IsFlat m c.self.inside.firsts.value.items) (sym (new_stored tables c.in-Some.found c.index_mut-table.result.now c.put_or_copy.new.self c.args.address c.args.size c.args.value c.self.invariant.sound below c.index_mut-table.ensures.value held c.put_or_copy.ensures.rest (c.put_or_copy.ensures.put h))) (flat_store (memory_in tables) _ c.args.address c.args.size c.args.value c.self.invariant)
      | inr h ↦ subst (λ m. IsFlat m c.self.inside.firsts.value.items) (sym (new_same tables c.in-Some.found c.index_mut-table.result.now c.put_or_copy.new.self below c.index_mut-table.ensures.value c.put_or_copy.ensures.rest (c.put_or_copy.ensures.same h))) c.self.invariant
    ]

pub returns-in-Some-clause-permitted : goal.returns-in-Some-clause-permitted
returns-in-Some-clause-permitted c done =
    rw (← c.self.view_is) (permits_is c.self.inside.tables.items c.args.address c.args.size c.args.need ∙ sym (rw c.deref-3.ensures.value at c.in-Some.ensures.permitted))

pub returns-in-Some-clause-stored : goal.returns-in-Some-clause-stored
returns-in-Some-clause-stored c h =
    let tables = c.self.inside.tables.items in
    let below = rw c.deref-3.ensures.value at c.in-Some.ensures.within in
    let holds = rw c.deref-3.ensures.value at c.in-Some.ensures.holds in
    let held = held_at tables c.in-Some.found c.index_mut-table.result.now c.args.address c.args.size holds c.index_mut-table.ensures.value in
    rw (← c.self.view_is) (new_stored tables c.in-Some.found c.index_mut-table.result.now c.put_or_copy.new.self c.args.address c.args.size c.args.value c.self.invariant.sound below c.index_mut-table.ensures.value held c.put_or_copy.ensures.rest (c.put_or_copy.ensures.put h))

pub returns-in-Some-clause-same : goal.returns-in-Some-clause-same
returns-in-Some-clause-same c h =
    let tables = c.self.inside.tables.items in
    let below = rw c.deref-3.ensures.value at c.in-Some.ensures.within in
    rw (← c.self.view_is) (new_same tables c.in-Some.found c.index_mut-table.result.now c.put_or_copy.new.self below c.index_mut-table.ensures.value c.put_or_copy.ensures.rest (c.put_or_copy.ensures.same h))

pub returns-in-None-clause-granted : goal.returns-in-None-clause-granted
returns-in-None-clause-granted c =
    rw (← c.self.view_is) (λ ready permitted. (rw c.deref-3.ensures.value at c.in-None.ensures.permitted) ∙ sym (permits_is c.self.inside.tables.items c.args.address c.args.size c.args.need) ∙ permitted)
