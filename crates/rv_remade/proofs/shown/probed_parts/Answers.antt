use Rattle.std.proofs.Common.{subst, sym}
use Rattle.rv_remade.proofs.ShowingLemmas.{more_parts, no_part}
use Rattle.rv_search.specs.RunWalk.{AreProbesOf}
use Rattle.rv_remade.specs.internal.Showing.{AreShownIn}
use Rattle.rv_remade.proofs.shown.probed_parts.Goals as goal

pub loop-part-init : goal.loop-part-init
loop-part-init c = record {
  probes = c.probes_of-probes.ensures;
  parts = subst (AreShownIn c.args.full) (sym c.new-parts.ensures.items) (no_part c.args.full);
}

pub loop-part-preserved-in-Continue-branch-2 : goal.loop-part-preserved-in-Continue-branch-2
loop-part-preserved-in-Continue-branch-2 c = record {
  probes = subst (AreProbesOf c.args.full.hunt.now c.args.run c.args.walk.now) (sym c.probed.ensures.same) c.loop-part.invariant.probes;
  parts = subst (AreShownIn c.args.full) (sym c.in_ok-push.ensures.items) (more_parts c.args.full c.loop-part.parts.items c.in_ok-shown.shown c.loop-part.invariant.parts c.in_ok-shown.ensures.shown);
}
