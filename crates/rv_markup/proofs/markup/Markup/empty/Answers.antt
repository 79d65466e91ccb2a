use Rattle.std.proofs.Common.{refl, arith, append_assoc}
use Rattle.rv_markup.specs.Markup.{Empty}
use Rattle.rv_markup.proofs.MarkupLemmas.{with_piece}
use Rattle.rv_markup.proofs.markup.Markup.empty.Goals as goal

pub invariant_of-self : goal.invariant_of-self
invariant_of-self c = with_piece (Empty c.args.tag c.args.attributes.now) c.self.invariant (grind (arith, append_assoc, c.in_ok-push_tag.ensures, c.in_ok-extend_from_slice.ensures.items)) refl refl
