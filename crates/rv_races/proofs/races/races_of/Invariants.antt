-- the races of the reports so far
use Rattle.std.proofs.Common.{◌≡◌, take}
use Rattle.rv_races.specs.Races.{races_of}
use Rattle.rv_races.proofs.races.races_of.Given as goal

abbrev pub invariant-loop-i : goal.invariant-loop-i
invariant-loop-i l = l.races.items ≡ races_of (take l.i l.reports)
