-- the sum of the bytes of the pieces so far
use Rattle.std.proofs.Common.{◌≡◌, ◌%◌, sum, take}
use Rattle.std.specs.List.{flat_map}
use Rattle.rv_remote.proofs.framed.sum_of_pieces.Given as goal

abbrev pub invariant-loop-piece : goal.invariant-loop-piece
invariant-loop-piece l = l.total ≡ sum (flat_map (λ piece. piece.now) (take l.piece-index l.pieces)) % 256
