use Rattle.std.proofs.Common.{refl, ap, drop, sym, ◌∙◌}
use Rattle.rv_json.specs.Object.{End}
use Rattle.rv_json.proofs.ObjectLemmas.{last_first, with_piece}
use Rattle.rv_json.proofs.object.Json.end.Goals as goal

pub invariant_of-self : goal.invariant_of-self
invariant_of-self c =
    let begun = last_first _ _ _ c.in-Some.ensures.items in
    (c.put_end.ensures.before ∙ c.self.invariant.0, with_piece End c.self.invariant.1 (rw begun c.in_ok-put_end.ensures.tokens) (sym (ap (drop 1) begun)) refl)
