use Rattle.std.proofs.Common.{refl, arith, append_assoc}
use Rattle.rv_markup.specs.Markup.{Begin}
use Rattle.rv_markup.proofs.MarkupLemmas.{last_first, with_piece}
use Rattle.rv_markup.proofs.markup.Markup.begin.Goals as goal

pub invariant_of-self : goal.invariant_of-self
invariant_of-self c = with_piece (Begin c.args.tag c.args.attributes.now) c.self.invariant (grind (arith, append_assoc, c.in_ok-push_tag.ensures, c.in_ok-push.ensures.items)) (last_first _ _ _ c.in_ok-push-2.ensures.items) refl
