use Rattle.std.proofs.Common.{All}
use Rattle.rv_campaign.proofs.pool.share_of.Given as goal

abbrev pub invariant-loop : goal.invariant-loop
invariant-loop g l = All (λ one. g.J.Jobs.makes l.jobs one.place one.made) l.done.items
