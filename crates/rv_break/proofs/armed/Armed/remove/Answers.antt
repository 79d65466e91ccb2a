use Rattle.std.proofs.Common.{◌∙◌, ap, sym, Some, None, arith}
use Rattle.std.specs.Prelude.{◌==◌, position}
use Rattle.rv_break.proofs.Buckets.{placed_if_in, remove_absent, remove_at, some_at, take_set}
use Rattle.rv_break.proofs.armed.Armed.remove.Goals as goal

pub returns-in-None-clause-was : goal.returns-in-None-clause-was
returns-in-None-clause-was c =
    placed_if_in c.self.inside.addresses.items c.args.self.now c.args.address None c.self.view_is
    (ap (position (λ other. other == c.args.address)) (sym c.deref.ensures.value) ∙ sym c.place_of.ensures ∙ c.in-None.is)

pub returns-in-None-clause-after : goal.returns-in-None-clause-after
returns-in-None-clause-after c =
    remove_absent c.args.self.now c.args.address (sym (placed_if_in c.self.inside.addresses.items c.args.self.now c.args.address None c.self.view_is
    (ap (position (λ other. other == c.args.address)) (sym c.deref.ensures.value) ∙ sym c.place_of.ensures ∙ c.in-None.is)))

pub overflow_sub-index_mut : goal.overflow_sub-index_mut
overflow_sub-index_mut c =
    some_at c.self.inside.addresses.items c.self.inside.counts.items c.self.invariant.filtered c.args.address c.bucket_of-bucket.result c.index_mut.result.now c.in-Some.place
    (ap (position (λ other. other == c.args.address)) (sym c.deref.ensures.value) ∙ sym c.place_of.ensures ∙ c.in-Some.is)
    c.bucket_of-bucket.ensures.value c.bucket_of-bucket.ensures.within c.index_mut.ensures.value

pub invariant_of-self : goal.invariant_of-self
invariant_of-self c = record {
  filtered = remove_at c.self.inside.addresses.items c.self.inside.counts.items c.take_out.new.addresses.items c.self.invariant.filtered c.args.address c.bucket_of-bucket.result c.index_mut.result.now c.in-Some.place
      (ap (position (λ other. other == c.args.address)) (sym c.deref.ensures.value) ∙ sym c.place_of.ensures ∙ c.in-Some.is)
      c.bucket_of-bucket.ensures.value c.bucket_of-bucket.ensures.within c.index_mut.ensures.value c.take_out.ensures.items;
  room = (let same = c.take_out.ensures.capacity in let room = c.self.invariant.room in omega arith);
}

pub returns-in-Some-clause-was : goal.returns-in-Some-clause-was
returns-in-Some-clause-was c =
    placed_if_in c.self.inside.addresses.items c.args.self.now c.args.address (Some c.in-Some.place) c.self.view_is
    (ap (position (λ other. other == c.args.address)) (sym c.deref.ensures.value) ∙ sym c.place_of.ensures ∙ c.in-Some.is)

pub returns-in-Some-clause-after : goal.returns-in-Some-clause-after
returns-in-Some-clause-after c =
    take_set c.self.inside.addresses.items c.take_out.new.addresses.items c.args.self.now c.args.address c.in-Some.place c.self.invariant.filtered.apart c.self.view_is
    (ap (position (λ other. other == c.args.address)) (sym c.deref.ensures.value) ∙ sym c.place_of.ensures ∙ c.in-Some.is)
    c.take_out.ensures.items
