use Rattle.std.proofs.Common.{◌≡◌, take}
use Rattle.rv_search.specs.Tally.{all_ended}
use Rattle.rv_search.proofs.tally.ended.Ended.add_all.Given as goal

abbrev pub invariant-loop-end : goal.invariant-loop-end
invariant-loop-end l = l.self ≡ all_ended l.initial.self (take l.end-index l.ends)
