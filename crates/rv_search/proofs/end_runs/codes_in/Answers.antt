use Rattle.std.proofs.Common.{◌≡◌, Some, None, refl}
use Rattle.std.specs.Prelude.{slice_get}
use Rattle.rv_tables.proofs.IgnoreLemmas.{first_and_others, none_left}
use Rattle.rv_search.proofs.RightLemmas.{code_next, codes_all}
use Rattle.rv_search.proofs.end_runs.codes_in.Goals as goal

pub loop-piece-init : goal.loop-piece-init
loop-piece-init c = rw c.new-codes.ensures.items refl

pub loop-piece-preserved : goal.loop-piece-preserved
loop-piece-preserved c =
    let first : Some c.in-Some.piece.now ≡ slice_get c.loop-piece.pieces 0 = cc in
    let pieces = first_and_others c.loop-piece.pieces c.next_piece.new.self c.in-Some.piece.now first c.in-Some.ensures.rest in
    code_next c.loop-piece.codes.items c.push_code.new.codes.items _ c.loop-piece.pieces c.next_piece.new.self c.in-Some.piece.now pieces c.in_ok-push_code.ensures c.loop-piece.invariant

pub returns : goal.returns
returns c =
    let none : None ≡ slice_get c.loop-piece.pieces 0 = cc in
    rw (← c.of-pieces.ensures) (codes_all c.loop-piece.codes.items _ c.loop-piece.pieces (none_left c.loop-piece.pieces none) c.loop-piece.invariant)
