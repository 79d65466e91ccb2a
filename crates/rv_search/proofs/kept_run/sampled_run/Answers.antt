use Rattle.std.proofs.Common.{List, subst, sym}
use Rattle.rv_collide.specs.Grammar.{IsWritable}
use Rattle.rv_collide.specs.Plan.{IsPlan, Numbers}
use Rattle.rv_collide.specs.Stored.{setting_of}
use Rattle.rv_collide.specs.declared.entry.Entry.{Entry}
use Rattle.rv_plans.specs.Plans.{plan_of}
use Rattle.rv_search.proofs.kept_run.sampled_run.Goals as goal

pub returns-clause-run : goal.returns-clause-run
returns-clause-run c =
    let hunt = c.args.hunt.now in
    c.left_by.ensures.run hunt.source (plan_of hunt.given c.args.number) c.args.number c.in_ok-core.ensures

pub returns-clause-writable : goal.returns-clause-writable
returns-clause-writable c =
    let core = c.in_ok-core.core in
    subst (λ (n : Numbers). IsWritable n c.left_by.result.entries.items) (sym c.left_by.ensures.plan)
    (subst (λ (es : List Entry). IsWritable core.plan es) (sym c.left_by.ensures.entries)
    (c.legal_is_writable.ensures (setting_of core) core.entries (subst IsPlan c.left_by.ensures.plan c.left_by.result.plan.in_range) c.facts.ensures.legal))
