use Rattle.std.proofs.Common.{arith}
use Rattle.std.proofs.lemmas.Grind.{common_steps}
use Rattle.rv_command.proofs.NumberLemmas.{SoFar-more, number_passes}
use Rattle.rv_command.proofs.command.number.read_number.Goals as goal

pub returns-then-longer-from : goal.returns-then-longer-from
returns-then-longer-from c = grind (arith, common_steps, number_passes c.args.limit c.loop-byte.number c.args.text.now c.loop-byte.byte-index)

pub loop-byte-preserved : goal.loop-byte-preserved
loop-byte-preserved c = grind (arith, common_steps, SoFar-more c.args.limit c.loop-byte.number c.args.text.now c.loop-byte.byte-index)
