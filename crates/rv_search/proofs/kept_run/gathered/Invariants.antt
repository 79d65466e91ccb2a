-- the parts so far, of the same walk
use Rattle.rv_search.specs.internal.Gathered.{AreGathered}
use Rattle.rv_search.specs.RunWalk.{AreProbesOf}
use Rattle.rv_search.proofs.kept_run.gathered.Given as goal

abbrev pub invariant-loop-pair : goal.invariant-loop-pair
invariant-loop-pair l = record {
  probes : AreProbesOf l.hunt l.number l.walk l.probes;
  gathered : AreGathered l.hunt l.number l.walk l.gathered;
}
