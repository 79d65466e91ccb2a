use Rattle.rv_search.proofs.HuntLemmas.{none_noted}
use Rattle.rv_search.proofs.hunt.Hunt.hunted.Goals as goal

pub go_on-requires-clause-so_far : goal.go_on-requires-clause-so_far
go_on-requires-clause-so_far g c = none_noted c.args.self.now c.new-hunted.result c.args.noted.now.ends c.new-hunted.ensures c.requires.none
