use Rattle.std.proofs.Common.{sym, ◌∙◌, subst}
use Rattle.rv_break.specs.Slots.{Slots}
use Rattle.rv_break.specs.internal.Span.{AreIn}
use Rattle.rv_break.proofs.Outside.{outside_shows_none}
use Rattle.rv_break.proofs.slots.Slots.see.Goals as goal

pub returns-else-not-misses : goal.returns-else-not-misses
returns-else-not-misses c =
    sym (outside_shows_none c.self.inside.watched c.args.seen c.args.self.now
    (subst (λ (slots : Slots). AreIn c.self.inside.watched slots) c.self.view_is c.self.invariant.1)
    (sym c.misses.ensures ∙ c.if-not-misses.false))
