use Rattle.std.proofs.Common.{◌≡◌, ◌+◌, ◌-◌, ◌%◌, ◌^◌, ◌<◌, ◌≤◌, ◌++◌, [], ◌∷◌}
use Rattle.rv_sample.specs.Sites.{sites_among}
use Rattle.rv_sample.proofs.scan.add_sites.Given as goal

abbrev pub invariant-loop-address : goal.invariant-loop-address
invariant-loop-address l = record {
  aligned : l.address % 4 ≡ 0;
  below : l.address < 2 ^ 33;
  from : l.segment.start ≤ l.address;
  is : l.found.items ≡ l.initial.found.items ++ sites_among (l.segment ∷ []) l.excluded l.segment.start (l.address - l.segment.start);
}

abbrev pub decreases-loop-address : goal.decreases-loop-address
decreases-loop-address l = l.end + 1 - l.address
