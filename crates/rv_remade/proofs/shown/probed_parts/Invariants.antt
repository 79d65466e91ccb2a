-- the parts so far, of the same walk
use Rattle.rv_search.specs.RunWalk.{AreProbesOf}
use Rattle.rv_remade.specs.internal.Showing.{AreShownIn}
use Rattle.rv_remade.proofs.shown.probed_parts.Given as goal

abbrev pub invariant-loop-part : goal.invariant-loop-part
invariant-loop-part l = record {
  probes : AreProbesOf l.full.hunt.now l.run l.walk l.probes;
  parts : AreShownIn l.full l.parts.items;
}
