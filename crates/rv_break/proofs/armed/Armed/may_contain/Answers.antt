use Rattle.std.proofs.Common.{ap, sym, ◌∙◌}
use Rattle.std.specs.FinSet.{contains}
use Rattle.rv_break.proofs.Buckets.{absent_at, empty_bucket, some_in_all}
use Rattle.rv_break.proofs.armed.Armed.may_contain.Goals as goal

pub returns-clause-absent : goal.returns-clause-absent
returns-clause-absent c = λ empty.
    ap (λ s. contains s c.args.address) (sym c.self.view_is)
    ∙ sym (absent_at c.self.inside.addresses.items c.self.inside.counts.items c.self.invariant.filtered c.args.address c.bucket_of.result c.index.result.now c.bucket_of.ensures.value c.index.ensures c.bucket_of.ensures.within (empty_bucket c.index.result.now empty))

pub returns-clause-some : goal.returns-clause-some
returns-clause-some c = λ full.
    some_in_all c.self.inside.addresses.items c.self.inside.counts.items c.args.self.now c.self.invariant.filtered c.bucket_of.result c.index.result.now c.self.view_is c.bucket_of.ensures.within c.index.ensures full
