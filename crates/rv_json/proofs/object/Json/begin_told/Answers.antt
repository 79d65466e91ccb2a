use Rattle.std.proofs.Common.{arith, append_assoc, ◌∙◌}
use Rattle.rv_json.specs.Object.{BeginAt}
use Rattle.rv_json.proofs.ObjectLemmas.{last_first, last_member, with_piece}
use Rattle.rv_json.proofs.object.Json.begin_told.Goals as goal

pub invariant_of-self : goal.invariant_of-self
invariant_of-self c = (c.put.ensures.before ∙ c.key.ensures.room.0 ∙ c.self.invariant.0, with_piece (BeginAt c.args.name.now c.args.begun) c.self.invariant.1 (grind (arith, append_assoc, c.in_ok-key.ensures.ok, c.in_ok-put.ensures.tokens)) (last_first _ _ _ c.in_ok-push.ensures.items) (last_member _ _ _ c.in_ok-push-2.ensures.items))
