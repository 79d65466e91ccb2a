use Rattle.rv_isa.proofs.RowLemmas.{decoded_by_candidate, decoded_row_at}
use Rattle.rv_isa.proofs.codec.decode.Goals as goal

pub returns : goal.returns
returns c =
    let same = decoded_by_candidate c.args.word c.candidate.result c.decode_as.result c.candidate.ensures c.decode_as.ensures.value c.decode_as.ensures.row in
    record { value = same; row = decoded_row_at _ c.args.word same }
