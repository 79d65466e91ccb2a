use Rattle.std.proofs.Common.{◌≡◌, Some, sym, ◌∙◌}
use Rattle.rv_isa.specs.Decoded.{decoded}
use Rattle.rv_isa.specs.TableLaws.{OneRowPerWord, OneInstructionPerWord, OneWordPerInstruction, FunctionsOfTheTable}
use Rattle.rv_isa.proofs.EncodedRow.{encoded_is, encoded_only}
use Rattle.rv_isa.proofs.RowLemmas.{decoded_row, op_at-matches, op_at-some}
use Rattle.rv_isa.proofs.TableLemmas.{candidate_is}

pub one_row : OneRowPerWord
one_row w a b ha hb = sym (candidate_is w a ha) ∙ candidate_is w b hb

pub one_instruction : OneInstructionPerWord
one_instruction w i j hi hj =
    let found : decoded w ≡ Some i = (decoded_row w i).1 hi in
    let again : decoded w ≡ Some j = (decoded_row w j).1 hj in
    cc

pub one_word : OneWordPerInstruction
one_word v w i hv hw rv rw' = sym (encoded_only i v hv rv) ∙ encoded_only i w hw rw'

pub functions_of_table : FunctionsOfTheTable
functions_of_table = (λ w op. (op_at-some w op, op_at-matches w op), decoded_row, encoded_is)
