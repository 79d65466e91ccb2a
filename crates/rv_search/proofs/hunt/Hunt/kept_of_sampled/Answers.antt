use Rattle.std.proofs.Common.{◌∙◌, [], List, ap, map}
use Rattle.rv_collide.specs.Plan.{Numbers}
use Rattle.rv_hart.specs.State.{start as first_state}
use Rattle.rv_search.proofs.JudgedLemmas.{judged_of}
use Rattle.rv_search.specs.Hunt.{Hunt}
use Rattle.rv_search.specs.KeptRun.{begin, in_part, reports_by}
use Rattle.rv_races.specs.declared.judged.Judged.{Judged}
use Rattle.rv_search.proofs.WalkLemmas.{same_ends}
use Rattle.rv_plans.specs.Plans.{plan_of}
use Rattle.rv_search.proofs.hunt.Hunt.kept_of_sampled.Goals as goal

pub returns : goal.returns
returns c =
    let hunt = c.args.self.now in
    let plan = plan_of hunt.given c.args.number in
    let left = c.left_by-left.ensures in
    let image = c.self.inside.image.now in
    let begin_is = ap (λ (n : Numbers). first_state image.segments image.entry n.harts) c.plan-plan.ensures.value ∙ ap (λ (h : Hunt). first_state h.source.image.segments h.source.image.entry (plan_of h.given c.args.number).harts) c.self.view_is in
    let judged_are = judged_of image hunt.source.image _ (begin hunt c.args.number) [] _ _ _ _ _ (ap (λ (h : Hunt). h.source.image) c.self.view_is) begin_is c.deref.ensures.value c.deref-2.ensures.value c.in_ok-judged.ensures in
    record {
      left = c.left_by-left.result;
      is_run = left.run hunt.source plan c.args.number c.in_ok-core.ensures;
      summary = c.in_ok-summary.ensures _ (c.in_ok-ends.ensures ∙ same_ends hunt.source plan c.args.number c.in_ok-core.core c.left_by-left.result.entries.items c.in_ok-core.ensures left.entries);
      reports_are = c.in_ok-reports.ensures ∙ ap (λ (ended : List Judged). map (in_part 0 0) (reports_by hunt ended)) (c.deref-3.ensures.value ∙ judged_are);
      near_are = c.new.ensures.items;
      tried_are = c.new-2.ensures.items;
    }
