use Rattle.std.proofs.Common.{◌∙◌, sym, arith, ◌≤◌}
use Rattle.std.specs.FinSet.{contains, len}
use Rattle.rv_break.specs.declared.claim.TheConstants.{ARMED_LIMIT}
use Rattle.rv_break.proofs.Buckets.{insert_at, push_set, len_at, few_at, not_added_in, not_added_full, added_room}
use Rattle.rv_break.proofs.armed.Armed.insert.Goals as goal

pub returns-then-contains-clause-added : goal.returns-then-contains-clause-added
returns-then-contains-clause-added c = not_added_in (contains c.args.self.now c.args.address) (len c.args.self.now) (sym c.if-contains.true ∙ c.contains.ensures)

pub returns-then-len-clause-added : goal.returns-then-len-clause-added
returns-then-len-clause-added c =
    let count = len_at c.self.inside.addresses.items c.args.self.now c.self.invariant.filtered.apart c.self.view_is in
    not_added_full (contains c.args.self.now c.args.address) (len c.args.self.now) (omega (arith, c.self.inside.addresses.ok.0))

pub overflow_add-index_mut : goal.overflow_add-index_mut
overflow_add-index_mut c =
    let few : c.index_mut.result.now ≤ ARMED_LIMIT = few_at c.self.inside.addresses.items c.self.inside.counts.items c.self.invariant.filtered c.bucket_of-bucket.result c.index_mut.result.now c.bucket_of-bucket.ensures.within c.index_mut.ensures.value in
    omega arith

pub invariant_of-self : goal.invariant_of-self
invariant_of-self c = record {
  filtered = insert_at c.self.inside.addresses.items c.self.inside.counts.items c.push_reserved.new.self.items c.args.self.now c.self.invariant.filtered c.args.address c.bucket_of-bucket.result c.index_mut.result.now c.self.view_is (sym c.if-contains.false ∙ c.contains.ensures) (omega (arith, c.self.inside.addresses.ok.0)) c.bucket_of-bucket.ensures.value c.bucket_of-bucket.ensures.within c.index_mut.ensures.value c.push_reserved.ensures.items;
  room = (let same = c.push_reserved.ensures.capacity in let room = c.self.invariant.room in omega arith);
}

pub returns-clause-added : goal.returns-clause-added
returns-clause-added c =
    let count = len_at c.self.inside.addresses.items c.args.self.now c.self.invariant.filtered.apart c.self.view_is in
    added_room (contains c.args.self.now c.args.address) (len c.args.self.now) (sym c.if-contains.false ∙ c.contains.ensures) (omega (arith, c.self.inside.addresses.ok.0))

pub returns-clause-after : goal.returns-clause-after
returns-clause-after c = push_set c.self.inside.addresses.items c.push_reserved.new.self.items c.args.self.now c.args.address c.self.view_is c.push_reserved.ensures.items
