use Rattle.std.proofs.Common.{rules}
use Rattle.rv_races.proofs.RaceLemmas.{told_races}
use Rattle.rv_races.specs.Races.{found, races, reports, run_of}
use Rattle.rv_races.proofs.races.races_in.Goals as goal

pub returns-clause-found : goal.returns-clause-found
unfolding found races reports
returns-clause-found c = search rules

pub returns-clause-told : goal.returns-clause-told
unfolding races reports
returns-clause-told c =
    rw (c.in_ok-races.ensures, c.deref.ensures.value, c.in_ok-reports.ensures) (told_races (run_of c.args.session.now) c.args.ranges.now)
