-- the runs of the stretches so far
use Rattle.std.proofs.Common.{◌≡◌, take}
use Rattle.rv_tables.specs.Origin.{runs_of}
use Rattle.rv_tables.proofs.origin.runs_in.Given as goal

abbrev pub invariant-loop-stretch : goal.invariant-loop-stretch
invariant-loop-stretch l = l.runs ≡ runs_of (take l.stretch-index l.stretches)
