use Rattle.rv_isa.specs.Encoded.{encoded}
use Rattle.rv_isa.proofs.EncodedRow.{encoded_row, encoded_only}
use Rattle.rv_isa.proofs.codec.encode.Goals as goal

pub returns-clause-row : goal.returns-clause-row
unfolding encoded
returns-clause-row c = rw c.assembled.ensures (encoded_row c.args.instr.now)

pub returns-clause-only : goal.returns-clause-only
unfolding encoded
returns-clause-only c = λ w low row. rw c.assembled.ensures (encoded_only c.args.instr.now w low row)
