use Rattle.std.proofs.Common.{◌≡◌, take}
use Rattle.rv_search.specs.Tally.{with_addresses}
use Rattle.rv_search.proofs.tally.addresses.Addresses.add_all.Given as goal

abbrev pub invariant-loop-address : goal.invariant-loop-address
invariant-loop-address l = l.self ≡ with_addresses l.initial.self (take l.address-index l.addresses)
