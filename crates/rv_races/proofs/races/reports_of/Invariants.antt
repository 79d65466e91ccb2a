-- the reports among the endings so far
use Rattle.std.proofs.Common.{◌≡◌}
use Rattle.rv_races.specs.Races.{reports_of}
use Rattle.rv_races.proofs.races.reports_of.Given as goal

abbrev pub invariant-loop-n : goal.invariant-loop-n
invariant-loop-n l = l.reports.items ≡ reports_of l.image l.ranges l.endings l.n
