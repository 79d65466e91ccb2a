use Rattle.std.proofs.Common.{refl}
use Rattle.rv_markup.specs.Markup.{Said}
use Rattle.rv_markup.proofs.MarkupLemmas.{with_piece}
use Rattle.rv_markup.proofs.markup.Markup.text.Goals as goal

pub invariant_of-self : goal.invariant_of-self
invariant_of-self c = with_piece (Said c.args.text.now) c.self.invariant c.in_ok-push_escaped.ensures refl refl
