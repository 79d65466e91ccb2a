use Rattle.std.proofs.Common.{ap, subst, sym, ◌∙◌}
use Rattle.rv_break.specs.internal.Span.{AreIn}
use Rattle.std.specs.List.{list_any}
use Rattle.rv_break.specs.Slots.{Slots, slots_after}
use Rattle.rv_break.specs.internal.Taken.{takes}
use Rattle.rv_break.proofs.Outside.{none_takes, shown_within}
use Rattle.rv_break.proofs.slots.Slots.see_apart.Goals as goal

pub invariant_of-self : goal.invariant_of-self
invariant_of-self c =
    shown_within c.span_of-self-inside.result c.args.seen c.self.inside.claims.items c.show.new.claims c.self.inside.claims.len c.self.inside.claims.ok.0 (c.show.ensures ∙ ap (slots_after c.args.seen) c.deref_mut.ensures.value) c.self.invariant.0
    (subst (AreIn c.span_of-self-inside.result) c.deref-2.ensures.value c.span_of-self-inside.ensures)

pub returns-then-not-is_taken : goal.returns-then-not-is_taken
returns-then-not-is_taken c =
    sym (none_takes c.args.seen c.args.self.now
    (sym (ap (λ (slots : Slots). list_any (takes c.args.seen) slots) (c.deref.ensures.value ∙ c.self.view_is)) ∙ sym c.is_taken.ensures ∙ c.if-not-is_taken.true))
