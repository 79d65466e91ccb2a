-- whether one of the ends so far is wrong
use Rattle.std.proofs.Common.{◌≡◌, take}
use Rattle.std.specs.Prelude.{◌||◌}
use Rattle.std.specs.List.{list_any}
use Rattle.rv_search.specs.RightEnds.{is_wrong_end}
use Rattle.rv_search.proofs.end_runs.EndRuns.add.Given as goal

abbrev pub invariant-loop-end : goal.invariant-loop-end
invariant-loop-end l = l.self ≡ record l.initial.self { is_wrong = l.initial.self.is_wrong || list_any (is_wrong_end l.initial.self.right) (take l.end-index l.ends) }
