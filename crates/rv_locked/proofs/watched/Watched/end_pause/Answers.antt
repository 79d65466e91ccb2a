use Rattle.std.proofs.Common.{sym, ◌∙◌}
use Rattle.rv_locked.proofs.WatchLemmas.{drew_on, ended_on}
use Rattle.rv_locked.proofs.watched.Watched.end_pause.Goals as goal

pub invariant_of-self : goal.invariant_of-self
invariant_of-self c =
    ended_on c.draws_owed.ensures c.self.inside.driver c.draw.new.self c.args.h c.self.inside.sampler c.self.inside.words c.draw.new.words c.self.inside.image c.self.inside.seed c.self.invariant
    (sym c.is_due.ensures ∙ c.if-not-is_due.false)
    (drew_on c.self.inside.driver c.resume-ending.new.self c.draw.new.self c.args.h c.self.inside.sampler c.self.inside.words c.self.inside.image c.self.inside.seed c.self.invariant c.resume-ending.ensures.adds.is_added c.draw.ensures.core)
    c.draw.ensures.words
