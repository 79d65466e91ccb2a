use Rattle.std.proofs.Common.{sym, negsuc, pos, arith}
use Rattle.std.specs.Prelude.{◌<ℤ◌}
use Rattle.std.proofs.lemmas.Int.{ints}
use Rattle.rv_isa.specs.Table.{form_of}
use Rattle.rv_asm.proofs.InstructionLemmas.{no_instruction, low_immediate, high_immediate}
use Rattle.rv_asm.proofs.reading.instruction.with_number.Goals as goal

pub returns-then-imm-lt-LEAST_IMMEDIATE : goal.returns-then-imm-lt-LEAST_IMMEDIATE
returns-then-imm-lt-LEAST_IMMEDIATE c =
    let low : c.args.imm <ℤ negsuc 2147483647 = grind (arith, ints) in
    sym (no_instruction c.args.op (record c.args.operands { imm = c.args.imm }) (low_immediate (form_of c.args.op) c.args.imm low))

pub returns-then-imm-gt-MOST_IMMEDIATE : goal.returns-then-imm-gt-MOST_IMMEDIATE
returns-then-imm-gt-MOST_IMMEDIATE c =
    let high : pos 2147483647 <ℤ c.args.imm = grind (arith, ints) in
    sym (no_instruction c.args.op (record c.args.operands { imm = c.args.imm }) (high_immediate (form_of c.args.op) c.args.imm high))
