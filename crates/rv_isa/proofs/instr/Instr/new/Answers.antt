use Rattle.std.proofs.Common.{◌≡◌, ℤ, Some, sym, ap, ◌∙◌, rules, to_z, of_z, w32}
use Rattle.rv_isa.specs.declared.operands.Operands.{Operands}
use Rattle.rv_isa.proofs.RowLemmas.{same_instr}
use Rattle.rv_isa.proofs.instr.Instr.new.Goals as goal

pub returns-then-orderings-clause-only : goal.returns-then-orderings-clause-only
returns-then-orderings-clause-only c = λ i is_op is_operands.
    let imm : to_z w32 (of_z w32 c.args.imm) ≡ c.args.imm = search rules in
    let with_imm : ℤ → Operands = λ z. record { rd = c.args.rd; rs1 = c.args.rs1; rs2 = c.args.rs2; imm = z; aq = c.args.aq; rl = c.args.rl } in
    ap Some (same_instr _ i (sym is_op) (ap with_imm imm ∙ sym is_operands))
