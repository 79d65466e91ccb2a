use Rattle.std.proofs.Common.{◌≡◌, ◌++◌, take}
use Rattle.std.specs.List.{flat_map}
use Rattle.rv_stuck.specs.Key.{words_of_range}
use Rattle.rv_stuck.proofs.acts.put_ranges.Given as goal

abbrev pub invariant-loop-k : goal.invariant-loop-k
invariant-loop-k l = l.words.items ≡ l.initial.words.items ++ flat_map words_of_range (take l.k l.ranges)
