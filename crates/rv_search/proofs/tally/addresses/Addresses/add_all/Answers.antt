use Rattle.std.proofs.Common.{refl}
use Rattle.std.specs.BTreeSet.{insert_key}
use Rattle.std.specs.Ordering.{nat_cmp}
use Rattle.rv_search.specs.Tally.{with_addresses}
use Rattle.rv_search.proofs.FoldLemmas.{folded_next}
use Rattle.rv_search.proofs.tally.addresses.Addresses.add_all.Goals as goal

pub loop-address-init : goal.loop-address-init
unfolding with_addresses
loop-address-init c = refl

pub loop-address-preserved : goal.loop-address-preserved
unfolding with_addresses
loop-address-preserved c =
    folded_next (insert_key nat_cmp) c.args.addresses.now c.loop-address.address-index _ c.args.self.now c.loop-address.self c.add.new.self c.loop-address-test.true c.loop-address.invariant c.in_ok-add.ensures
