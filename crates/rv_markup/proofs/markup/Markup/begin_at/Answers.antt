use Rattle.std.proofs.Common.{arith, append_assoc}
use Rattle.rv_markup.specs.Markup.{BeginAt}
use Rattle.rv_markup.proofs.MarkupLemmas.{last_first, with_piece}
use Rattle.rv_markup.proofs.markup.Markup.begin_at.Goals as goal

pub invariant_of-self : goal.invariant_of-self
invariant_of-self c = with_piece (BeginAt c.args.tag c.args.attributes.now c.args.place) c.self.invariant (grind (arith, append_assoc, c.in_ok-push_tag.ensures, c.in_ok-extend_from_slice.ensures.items, c.in_ok-push_place.ensures, c.in_ok-extend_from_slice-2.ensures.items)) (last_first _ _ _ c.in_ok-push.ensures.items) (last_first _ _ _ c.in_ok-push-2.ensures.items)
