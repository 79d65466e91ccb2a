-- the first endings are added to what was told before
use Rattle.std.proofs.Common.{◌≡◌, ◌++◌, List, map, take}
use Rattle.rv_report.specs.Races.{Told, races}
use Rattle.rv_engines.specs.Campaigns.{with_class}
use Rattle.rv_engines.proofs.run.table.add_run.Given as goal

abbrev pub invariant-loop-i : goal.invariant-loop-i
invariant-loop-i g l =
    (told : List Told) → l.initial.table ≡ races told → l.table ≡ races (told ++ take l.i (map (with_class l.image l.ranges l.run) l.endings))
