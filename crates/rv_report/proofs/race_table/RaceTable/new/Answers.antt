use Rattle.std.proofs.Common.{rules}
use Rattle.rv_report.specs.Races.{races, rows, reports, firsts, pruned}
use Rattle.rv_report.proofs.race_table.RaceTable.new.Goals as goal

pub returns : goal.returns
unfolding races rows reports firsts pruned
returns c = search rules
