use Rattle.rv_isa.proofs.EncodeLemmas.{ranges_by_field}
use Rattle.rv_isa.proofs.laws.ranges_by_field.Goals as goal

pub returns : goal.returns
returns c = ranges_by_field
