use Rattle.std.proofs.Common.{◌∙◌, ◌∷◌, ◌++◌, [], ap, arith, refl, subst, sym, take}
use Rattle.rv_hart.specs.State.{start as first_state}
use Rattle.rv_search.proofs.JudgedLemmas.{judged_of}
use Rattle.rv_collide.specs.Plan.{Numbers}
use Rattle.rv_search.proofs.WalkLemmas.{all_more, gone_by, of_walk, tried_so}
use Rattle.rv_search.specs.Hunt.{Hunt}
use Rattle.rv_search.specs.KeptRun.{begin}
use Rattle.rv_plans.specs.Plans.{plan_of}
use Rattle.rv_search.specs.RunWalk.{AreProbesOf}
use Rattle.rv_walk.specs.Part.{IsPart}
use Rattle.rv_search.proofs.kept_run.gathered.Goals as goal

pub loop-pair-init : goal.loop-pair-init
loop-pair-init c = record {
  probes = c.probes_of-probes.ensures;
  gathered = record {
    walk = c.probes_of-probes.result;
    is_walk = c.probes_of-probes.ensures.is_walk;
    harts_are = c.probes_of-probes.ensures.harts_are;
    parts = [];
    are_parts = λ k d below. absurd (omega (arith, below));
    is_gathered = c.in_ok-gathered.ensures c.args.hunt.now (begin c.args.hunt.now c.args.number);
  };
}

pub loop-pair-preserved : goal.loop-pair-preserved
loop-pair-preserved c =
    let p = c.loop-pair.invariant.probes in
    let g = c.loop-pair.invariant.gathered in
    let part = c.in_ok-part.part in
    let hunt = c.args.hunt.now in
    let begin_is = ap (λ (n : Numbers). first_state hunt.source.image.segments hunt.source.image.entry n.harts) (c.plan-plan.ensures.value ∙ ap (λ (h : Hunt). plan_of h.given c.args.number) c.hunt.view_is) in
    let judged_are = c.deref.ensures.value ∙ judged_of hunt.source.image hunt.source.image _ (begin hunt c.args.number) (take part.place c.args.walk.now.left.harts.items) _ _ _ _ _ refl begin_is refl refl c.in_ok-judged.ensures in
    let gone = gone_by (begin hunt c.args.number) c.args.walk.now.left.harts.items in
    let added = c.in_ok-add.ensures gone c.args.walk.now.left.pairs.items g.parts judged_are g.is_gathered in
    record {
      probes = subst (AreProbesOf c.args.hunt.now c.args.number c.args.walk.now) (sym (c.try_from.ensures.probes ∙ c.probe.ensures.same)) p;
      gathered = record {
        walk = g.walk;
        is_walk = g.is_walk;
        harts_are = g.harts_are;
        parts = g.parts ++ part ∷ [];
        are_parts = all_more (IsPart g.walk) g.parts part g.are_parts
            (of_walk c.loop-pair.probes g.walk part (g.is_walk.start_is ∙ sym p.is_walk.start_is) (g.harts_are ∙ sym p.harts_are) (g.is_walk.sites_are ∙ sym p.is_walk.sites_are) c.in_ok-part.ensures.part);
        is_gathered = tried_so c.args.hunt.now (gone_by (begin c.args.hunt.now c.args.number) c.args.walk.now.left.harts.items) c.args.walk.now.left.pairs.items (g.parts ++ part ∷ []) c.add.new.self c.try_from.new.self c.try_from.ensures.same c.in_ok-try_from.ensures.tried added;
      };
    }
