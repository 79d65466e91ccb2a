use Rattle.std.proofs.Common.{rules}
use Rattle.rv_collide.specs.First.{seen_at}
use Rattle.rv_explain.specs.BlockOf.{meets_at}
use Rattle.rv_explain.proofs.walk.Walked.pass.Goals as goal

pub returns-clause-last : goal.returns-clause-last
unfolding seen_at
returns-clause-last c = search rules

pub returns-clause-meets : goal.returns-clause-meets
unfolding meets_at
returns-clause-meets c = search rules
