use Rattle.std.proofs.Common.{◌≡◌, ◌∙◌, rules, to_z, of_z, w64}
use Rattle.rv_asm.proofs.InstructionLemmas.{ordered}
use Rattle.rv_asm.proofs.reading.formats.ordered_instr.Goals as goal

pub returns : goal.returns
returns c =
    let pred : to_z w64 (of_z w64 c.args.pred) ≡ c.args.pred = search rules in
    let succ : to_z w64 (of_z w64 c.args.succ) ≡ c.args.succ = search rules in
    c.numbered.ensures
    ∙ ordered c.args.op c.args.pred c.args.succ _ _ c.in_ok-before.before c.in_ok-after.after _ pred succ c.in_ok-before.ensures.value c.in_ok-after.ensures.value (search rules)
