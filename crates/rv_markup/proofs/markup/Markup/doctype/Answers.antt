use Rattle.std.proofs.Common.{refl}
use Rattle.rv_markup.specs.Markup.{Doctype}
use Rattle.rv_markup.proofs.MarkupLemmas.{with_piece}
use Rattle.rv_markup.proofs.markup.Markup.doctype.Goals as goal

pub invariant_of-self : goal.invariant_of-self
invariant_of-self c = with_piece Doctype c.self.invariant c.in_ok-extend_from_slice.ensures.items refl refl
