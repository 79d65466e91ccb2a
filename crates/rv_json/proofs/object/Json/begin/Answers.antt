use Rattle.std.proofs.Common.{refl, ◌∙◌}
use Rattle.rv_json.specs.Object.{Begin}
use Rattle.rv_json.proofs.ObjectLemmas.{last_first, with_piece}
use Rattle.rv_json.proofs.object.Json.begin.Goals as goal

pub invariant_of-self : goal.invariant_of-self
invariant_of-self c = (c.put.ensures.before ∙ c.self.invariant.0, with_piece (Begin c.args.begun) c.self.invariant.1 c.in_ok-put.ensures.tokens (last_first _ _ _ c.in_ok-push.ensures.items) refl)
