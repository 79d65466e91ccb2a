use Rattle.rv_locked.proofs.WatchLemmas.{turned_on}
use Rattle.rv_locked.proofs.watched.Watched.take_turn.Goals as goal

pub invariant_of-self : goal.invariant_of-self
invariant_of-self c =
    turned_on c.draws_owed.ensures c.self.inside.driver c.turn.new.self c.args.h c.turn.result c.self.inside.sampler c.self.inside.words c.self.inside.image c.self.inside.seed c.self.invariant c.turn.ensures
