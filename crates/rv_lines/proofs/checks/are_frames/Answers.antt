use Rattle.std.proofs.Common.{◌≡◌, ◌∙◌, ◌∷◌, List, ℕ, Some, sym, ap}
use Rattle.std.specs.Prelude.{slice_get}
use Rattle.rv_lines.specs.SourceLines.{are_frames}
use Rattle.rv_lines.proofs.PieceLemmas.{first_and_others, frames_more}
use Rattle.rv_lines.proofs.checks.are_frames.Goals as goal

pub loop-left-preserved : goal.loop-left-preserved
loop-left-preserved c =
    let f = c.in-Some.function.now in
    let p = c.in-Some-next_piece.place.now in
    let first : Some f ≡ slice_get c.loop-left.pieces 0 = cc in
    let second : Some p ≡ slice_get c.next_piece.new.self 0 = cc in
    let pieces = first_and_others c.loop-left.pieces c.next_piece.new.self f first c.in-Some.ensures.rest
    ∙ ap (λ (ps : List (List ℕ)). f ∷ ps) (first_and_others c.next_piece.new.self c.next_piece-in-loop-left.new.self p second c.in-Some-next_piece.ensures.rest) in
    sym (frames_more c.loop-left.left f p c.next_piece-in-loop-left.new.self c.loop-left-test.true (sym c.is_frame.ensures ∙ c.if-not-is_frame.false))
    ∙ ap (are_frames c.loop-left.left) (sym pieces) ∙ c.loop-left.invariant
