use Rattle.std.proofs.Common.{refl, ◌∙◌}
use Rattle.std.specs.Fmt.{decimal}
use Rattle.json.specs.Token as token
use Rattle.rv_json.specs.Object.{Said}
use Rattle.rv_json.proofs.ObjectLemmas.{with_piece}
use Rattle.rv_json.proofs.object.Json.number.Goals as goal

pub invariant_of-self : goal.invariant_of-self
invariant_of-self c = (c.u64.ensures.room.0 ∙ c.self.invariant.0, with_piece (Said (token.number (decimal c.args.number))) c.self.invariant.1 c.in_ok-u64.ensures.ok refl refl)
