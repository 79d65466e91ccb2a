-- the lines of the places so far are there
use Rattle.std.proofs.Common.{◌≡◌, ◌-◌}
use Rattle.rv_debug.specs.Placed.{moved}
use Rattle.rv_explain.specs.BlockOf.{lines_from, first_shown}
use Rattle.rv_explain.specs.internal.Gathered.{IsCounted, gathered_of}
use Rattle.rv_races.specs.Races.{run_of}
use Rattle.rv_explain.proofs.lines.lines.Given as goal

abbrev pub invariant-loop-at : goal.invariant-loop-at
invariant-loop-at l = record {
  same : l.session ≡ moved l.fn.session l.session.place;
  lines : gathered_of l.gathered ≡ lines_from (run_of l.fn.session) l.about.around l.about.told l.about.places.items (first_shown l.about.around l.about.told) (l.at - first_shown l.about.around l.about.told);
  counted : IsCounted l.gathered l.at;
}
