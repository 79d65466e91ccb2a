-- only trials are added, each of a report
use Rattle.std.proofs.Common.{◌≡◌, All}
use Rattle.rv_search.specs.KeptRun.{IsOfSome}
use Rattle.rv_search.proofs.gathered.Gathered.try_from.Given as goal

abbrev pub invariant-loop-place : goal.invariant-loop-place
invariant-loop-place l = record {
  probes : l.probes ≡ l.initial.probes;
  same : l.self ≡ record l.initial.self { trials = l.self.trials };
  tried : All (IsOfSome l.initial.self.reports.items) l.initial.self.trials.tried.items → All (IsOfSome l.initial.self.reports.items) l.self.trials.tried.items;
}
