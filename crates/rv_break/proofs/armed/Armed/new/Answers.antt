use Rattle.std.proofs.Common.{arith}
use Rattle.rv_break.proofs.Buckets.{none_filtered_at}
use Rattle.rv_break.proofs.armed.Armed.new.Goals as goal

pub invariant_of-result : goal.invariant_of-result
invariant_of-result c = record {
  filtered = none_filtered_at c.in_ok-addresses.addresses.items c.in_ok-counts.counts.items c.in_ok-addresses.ensures.items c.in_ok-counts.ensures;
  room = (let exact = c.in_ok-addresses.ensures.exact in omega arith);
}
