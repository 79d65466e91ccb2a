use Rattle.std.proofs.Common.{◌∙◌}
use Rattle.rv_isa.proofs.TableLemmas.{candidate_is}
use Rattle.rv_isa.proofs.candidate.candidate.Goals as goal

pub returns : goal.returns
returns c = λ op row. c.by_fields.ensures ∙ candidate_is c.args.word op row
