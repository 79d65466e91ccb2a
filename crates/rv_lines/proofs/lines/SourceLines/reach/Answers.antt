use Rattle.std.proofs.Common.{◌∙◌, ap, ℕ, List, Bool}
use Rattle.std.specs.Prelude.{◌&&◌, ◌||◌, nat_lt}
use Rattle.std.specs.List.{list_any}
use Rattle.rv_lines.specs.SourceLines.{begins_within, frames_at, has_some}
use Rattle.rv_lines.specs.internal.Kept.{line_of}
use Rattle.rv_lines.specs.declared.lines.KeptLine.{KeptLine}
use Rattle.rv_lines.proofs.KeptLemmas.{any_kept}
use Rattle.rv_lines.proofs.lines.SourceLines.reach.Goals as goal

pub returns : goal.returns
returns c =
    let start = c.args.start in
    let end = c.args.end in
    let begins = c.begin_within-begins.ensures ∙ ap (λ (lines : List KeptLine). list_any (λ line. begins_within start end (line_of line)) lines) c.deref.ensures.value
    ∙ any_kept (begins_within start end) c.self.inside.lines.items ∙ ap (list_any (begins_within start end)) c.self.view_is in
    c.is_either.ensures ∙ ap (λ (b : Bool). (b && nat_lt c.from.result end) || c.begin_within-begins.result) (c.has_frames-starts.ensures ∙ ap has_some c.frames_at.ensures)
    ∙ ap (λ (n : ℕ). (has_some (frames_at c.args.self.now start) && nat_lt n end) || c.begin_within-begins.result) c.from.ensures
    ∙ ap (λ (b : Bool). (has_some (frames_at c.args.self.now start) && nat_lt start end) || b) begins
