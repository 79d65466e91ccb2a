use Rattle.std.proofs.Common.{refl, arith}
use Rattle.rv_markup.specs.Markup.{Number}
use Rattle.rv_markup.proofs.MarkupLemmas.{last_first, with_piece}
use Rattle.rv_markup.proofs.markup.Markup.number.Goals as goal

pub invariant_of-self : goal.invariant_of-self
invariant_of-self c = with_piece (Number c.args.number) c.self.invariant (grind (arith, c.in_ok-extend_from_slice.ensures.items, c.as_bytes.ensures, c.new.ensures)) refl (last_first _ _ _ c.in_ok-push.ensures.items)
