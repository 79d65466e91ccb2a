use Rattle.rv_shown.proofs.ShownLemmas.{each_is_shown_once}
use Rattle.rv_shown.proofs.ShownRowLemmas.{each_is_counted_once}
use Rattle.rv_shown.proofs.laws.each_race_is_shown_once.Goals as goal

pub returns-clause-shown : goal.returns-clause-shown
returns-clause-shown c = each_is_shown_once

pub returns-clause-counted : goal.returns-clause-counted
returns-clause-counted c = each_is_counted_once c.races_are_apart.ensures
