-- the pieces so far are exit codes
use Rattle.std.proofs.Common.{◌≡◌, length}
use Rattle.std.specs.List.{list_all}
use Rattle.rv_command.specs.HuntLine.{are_codes, is_code}
use Rattle.rv_command.proofs.command.hunt.are_codes.Given as goal

abbrev pub invariant-loop-piece : goal.invariant-loop-piece
invariant-loop-piece l = are_codes l.text ≡ list_all is_code l.pieces

abbrev pub decreases-loop-piece : goal.decreases-loop-piece
decreases-loop-piece l = length l.pieces
