use Rattle.std.proofs.Common.{◌≡◌, length}
use Rattle.std.specs.List.{list_all}
use Rattle.rv_text.specs.Pieces.{pieces_of}
use Rattle.rv_asm.specs.Operand.{operand}
use Rattle.rv_asm.specs.SourceLine.{is_in_range}
use Rattle.rv_asm.proofs.reading.values.are_in_range.Given as goal

abbrev pub invariant-loop-piece : goal.invariant-loop-piece
invariant-loop-piece l = list_all (λ piece. is_in_range l.values (operand piece)) (pieces_of 44 l.text) ≡ list_all (λ piece. is_in_range l.values (operand piece)) l.pieces

abbrev pub decreases-loop-piece : goal.decreases-loop-piece
decreases-loop-piece l = length l.pieces
