use Rattle.std.proofs.Common.{◌≡◌, ◌∙◌, rules, to_z, of_z, w32}
use Rattle.rv_asm.proofs.InstructionLemmas.{instruction_made}
use Rattle.rv_asm.proofs.reading.instruction.instruction.Goals as goal

pub returns : goal.returns
returns c =
    let imm : to_z w32 (of_z w32 c.args.operands.imm) ≡ c.args.operands.imm = search rules in
    c.ok_or.ensures.value ∙ instruction_made c.args.op c.args.operands _ c.new.result imm c.new.ensures.valid c.new.ensures.only
