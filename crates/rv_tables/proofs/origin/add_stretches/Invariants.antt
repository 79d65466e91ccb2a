-- the stretches so far are added
use Rattle.std.proofs.Common.{◌≡◌, take}
use Rattle.std.specs.List.{fold}
use Rattle.rv_tables.specs.Origin.{with_stretch}
use Rattle.rv_tables.proofs.origin.add_stretches.Given as goal

abbrev pub invariant-loop-stretch : goal.invariant-loop-stretch
invariant-loop-stretch l = l.stretches.items ≡ fold with_stretch l.initial.stretches.items (take l.stretch-index l.later)
