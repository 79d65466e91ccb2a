use Rattle.std.proofs.Common.{refl, ◌∙◌}
use Rattle.json.specs.Token as token
use Rattle.rv_json.specs.Object.{Said}
use Rattle.rv_json.proofs.ObjectLemmas.{with_piece}
use Rattle.rv_json.proofs.object.Json.digits.Goals as goal
use Rattle.rv_text.specs.Hexadecimal.{word_digits}

pub invariant_of-self : goal.invariant_of-self
invariant_of-self c = (c.put_digits.ensures.before ∙ c.self.invariant.0, with_piece (Said (token.string (word_digits c.args.word))) c.self.invariant.1 c.in_ok-put_digits.ensures.tokens refl refl)
