use Rattle.std.proofs.Common.{ap}
use Rattle.rv_collide.proofs.Unwatched.{nothing_seen}
use Rattle.rv_collide.proofs.detector.quick.show_noted.Goals as goal

pub returns-then-not-is_watched : goal.returns-then-not-is_watched
returns-then-not-is_watched c =
    ap (λ slots. record c.args.breaks.now { slots = slots }) (nothing_seen _ c.args.breaks.now.slots (c.requires c.if-not-is_watched.true))
