use Rattle.rv_search.proofs.HuntLemmas.{one_more_counted, one_more_noted}
use Rattle.rv_search.proofs.hunt.Hunt.add.Goals as goal

pub returns-clause-so_far : goal.returns-clause-so_far
returns-clause-so_far c =
    one_more_noted c.args.self.now c.args.hunted.now c.add.new.self c.args.noted.now.ends c.add-2.new.self.ends c.args.run c.args.kept.now c.requires.hunt c.requires.so_far c.requires.goes_on c.requires.next c.requires.kept c.in_ok-add.ensures c.in_ok-add-2.ensures

pub returns-clause-runs : goal.returns-clause-runs
returns-clause-runs c =
    one_more_counted c.args.self.now c.args.hunted.now c.add.new.self c.args.run c.args.kept.now c.requires.hunt c.requires.goes_on c.in_ok-add.ensures
