use Rattle.std.proofs.Common.{◌≡◌, ◌∙◌, ◌+◌, List, ℕ, Some, None, length, option_map, refl, sym, ap, arith}
use Rattle.std.specs.Prelude.{slice_get}
use Rattle.rv_tables.specs.declared.merge.ignore.ListedLine.{ListedLine}
use Rattle.rv_tables.specs.internal.Shaped.{judged, said_by}
use Rattle.rv_tables.specs.merge.Ignore.{lines_from}
use Rattle.rv_tables.proofs.IgnoreLemmas.{faulty, few_pieces, first_and_others, no_more, none_left, step}
use Rattle.rv_tables.proofs.merge.ignore.shaped_lines.Goals as goal

pub loop-text-init : goal.loop-text-init
loop-text-init c =
    let few = few_pieces c.args.text.now in
    (rw c.of-pieces.ensures (omega arith), λ known. rw c.new-lines.ensures.items refl)

pub returns-in-Err : goal.returns-in-Err
returns-in-Err c = λ known.
    let first : Some c.in-Some.text.now ≡ slice_get c.loop-text.pieces 0 = cc in
    let pieces = first_and_others c.loop-text.pieces c.next_piece.new.self c.in-Some.text.now first c.in-Some.ensures.rest in
    rw (← c.of-pieces.ensures)
    (c.loop-text.invariant.1 known ∙ ap (λ (ps : List (List ℕ)). judged known c.loop-text.lines.items (lines_from known c.loop-text.line ps)) pieces
    ∙ faulty known c.loop-text.line c.loop-text.lines.items c.in-Err.kind c.in-Some.text.now c.next_piece.new.self c.in-Err.ensures.err)

pub loop-text-preserved : goal.loop-text-preserved
loop-text-preserved c =
    let first : Some c.in-Some.text.now ≡ slice_get c.loop-text.pieces 0 = cc in
    let pieces = first_and_others c.loop-text.pieces c.next_piece.new.self c.in-Some.text.now first c.in-Some.ensures.rest in
    let count = ap length pieces in (
      omega arith,
      λ known.
          c.loop-text.invariant.1 known ∙ ap (λ (ps : List (List ℕ)). judged known c.loop-text.lines.items (lines_from known c.loop-text.line ps)) pieces
          ∙ step known c.loop-text.line c.loop-text.lines.items (option_map said_by c.in-Ok.words) c.in-Some.text.now c.next_piece.new.self c.in-Ok.ensures.ok
          ∙ ap (λ (items : List ListedLine). judged known items (lines_from known (c.loop-text.line + 1) c.next_piece.new.self)) (sym c.in_ok-add_line-in-Ok.ensures),
    )

pub returns : goal.returns
returns c = λ known.
    let none : None ≡ slice_get c.loop-text.pieces 0 = cc in
    rw (← c.of-pieces.ensures)
    (c.loop-text.invariant.1 known ∙ ap (λ (ps : List (List ℕ)). judged known c.loop-text.lines.items (lines_from known c.loop-text.line ps)) (none_left c.loop-text.pieces none)
    ∙ no_more known c.loop-text.line c.loop-text.lines.items)
