use Rattle.std.proofs.Common.{◌<◌, length, arith}
use Rattle.std.proofs.lemmas.Bool.Decides.{nat_tests}
use Rattle.rv_asm.proofs.SourceLineLemmas.{three_operands}
use Rattle.rv_asm.proofs.reading.operand.read_operands.Goals as goal

pub returns-in-None : goal.returns-in-None
returns-in-None c =
    let some : 0 < length c.args.text.now = grind (arith, nat_tests) in
    three_operands c.args.text.now _ _ _ _ c.in-Some.first c.in-Some-next_operand.second c.in-Some-next_operand-2.third some c.of-pieces.ensures c.next_operand.ensures.rest c.next_operand-2.ensures.rest c.next_operand-3.ensures.rest
    c.in-Some.ensures.first c.in-Some-next_operand.ensures.first c.in-Some-next_operand-2.ensures.first c.in-None.ensures.first
