-- the table is that of the first runs, for all runs of these endings
use Rattle.std.proofs.Common.{◌≡◌, List, map, take}
use Rattle.rv_collide.specs.declared.collider.Finished.{Finished}
use Rattle.rv_report.specs.Races.{races}
use Rattle.rv_engines.specs.Campaigns.{told_from}
use Rattle.rv_engines.proofs.run.table.table_of.Given as goal

abbrev pub invariant-loop-run : goal.invariant-loop-run
invariant-loop-run g l =
    (runs : List Finished) → map (λ one. one.endings) runs ≡ l.ended → l.table ≡ races (told_from l.image l.ranges 0 (take l.run runs))
