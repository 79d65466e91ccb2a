use Rattle.std.proofs.Common.{refl, arith, append_assoc, ap, sym, drop}
use Rattle.rv_markup.specs.Markup.{End}
use Rattle.rv_markup.proofs.MarkupLemmas.{last_first, with_piece}
use Rattle.rv_markup.proofs.markup.Markup.end.Goals as goal

pub invariant_of-self : goal.invariant_of-self
invariant_of-self c =
    let begun = last_first _ _ _ c.in-Some.ensures.items in
    with_piece End c.self.invariant (rw begun (grind (arith, append_assoc, c.name.ensures, c.in_ok-extend_from_slice.ensures.items, c.in_ok-extend_from_slice-2.ensures.items, c.in_ok-push.ensures.items)))
    (sym (ap (drop 1) begun)) refl
