use Rattle.std.proofs.Common.{refl, arith, append_assoc, ◌∙◌}
use Rattle.rv_json.specs.Object.{Tell, value_of}
use Rattle.rv_json.proofs.ObjectLemmas.{last_member, with_piece}
use Rattle.rv_json.proofs.object.Json.tell.Goals as goal

pub invariant_of-self : goal.invariant_of-self
invariant_of-self c = (c.put.ensures.before ∙ c.key.ensures.room.0 ∙ c.self.invariant.0, with_piece (Tell (record { name = c.args.name.now; value = value_of c.args.value })) c.self.invariant.1 (grind (arith, append_assoc, c.in_ok-key.ensures.ok, c.in_ok-put.ensures.tokens)) refl (last_member _ _ _ c.in_ok-push.ensures.items))
