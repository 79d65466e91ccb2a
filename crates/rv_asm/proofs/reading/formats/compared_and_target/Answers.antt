use Rattle.std.proofs.Common.{◌∙◌, ap}
use Rattle.rv_asm.specs.Faults.{both}
use Rattle.rv_asm.specs.SourceLine.{register_in}
use Rattle.rv_asm.proofs.reading.formats.compared_and_target.Goals as goal

pub returns : goal.returns
returns c =
    c.both-2.ensures ∙ ap (λ r. both r c.both.result) c.register_in.ensures
    ∙ ap (λ r. both (register_in c.args.rs1) r) (c.both.ensures ∙ ap (λ r. both r c.expression_at.result) c.register_in-2.ensures ∙ ap (λ r. both (register_in c.args.rs2) r) c.expression_at.ensures)
