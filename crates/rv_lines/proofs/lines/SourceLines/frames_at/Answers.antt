use Rattle.std.proofs.Common.{◌∙◌, ap, List}
use Rattle.rv_lines.specs.SourceLines.{SourceLine, frames_at}
use Rattle.rv_lines.specs.internal.Kept.{told_at}
use Rattle.rv_lines.proofs.KeptLemmas.{kept_frames}
use Rattle.rv_lines.proofs.lines.SourceLines.frames_at.Goals as goal

pub returns : goal.returns
returns c =
    c.told_at.ensures ∙ ap (λ lines. told_at lines c.args.address) c.deref.ensures.value ∙ kept_frames c.self.inside.lines.items c.args.address
    ∙ ap (λ (lines : List SourceLine). frames_at lines c.args.address) c.self.view_is
