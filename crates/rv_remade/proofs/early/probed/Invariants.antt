-- the probes are of the same walk
use Rattle.rv_search.specs.RunWalk.{AreProbesOf}
use Rattle.rv_remade.proofs.early.probed.Given as goal

abbrev pub invariant-loop-part : goal.invariant-loop-part
invariant-loop-part l = AreProbesOf l.early.hunt.now l.run l.walk l.probes
