-- the pieces that are left tell; each turn takes a piece
use Rattle.std.proofs.Common.{◌≡◌, length}
use Rattle.std.specs.Prelude.{is_some}
use Rattle.std.specs.List.{list_all}
use Rattle.rv_gdb.specs.Action.{action_in}
use Rattle.rv_gdb.proofs.action.are_actions.Given as goal

abbrev pub invariant-loop-piece : goal.invariant-loop-piece
invariant-loop-piece l = list_all (λ piece. is_some (action_in piece)) l.initial.pieces ≡ list_all (λ piece. is_some (action_in piece)) l.pieces

abbrev pub decreases-loop-piece : goal.decreases-loop-piece
decreases-loop-piece l = length l.pieces
