-- the trials so far, of the same walk
use Rattle.rv_remade.specs.internal.OrderShowing.{AreMade}
use Rattle.rv_search.specs.RunWalk.{AreProbesOf}
use Rattle.rv_remade.proofs.orders.made_in.Given as goal

abbrev pub invariant-loop-part : goal.invariant-loop-part
invariant-loop-part l = record {
  probes : AreProbesOf l.again.hunt.now l.run l.walk l.probes;
  made : AreMade l.again l.made.items;
}
