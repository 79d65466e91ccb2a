use Rattle.std.proofs.Common.{◌∙◌}
use Rattle.rv_lines.proofs.TextLemmas.{utf8_by}
use Rattle.rv_lines.proofs.checks.is_utf8.Goals as goal

pub returns : goal.returns
returns c = c.is_ok.ensures.value ∙ utf8_by c.args.text.now c.from_utf8.result _ _ c.from_utf8.ensures.cases (λ s told. told.1) (λ e told. told.0)
