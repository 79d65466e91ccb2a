-- the pieces that are left have the actions that were left; each turn takes a piece
use Rattle.std.proofs.Common.{◌≡◌, length}
use Rattle.rv_gdb.specs.Action as spec
use Rattle.rv_gdb.proofs.action.Actions.next_action.Given as goal

abbrev pub invariant-loop-piece : goal.invariant-loop-piece
invariant-loop-piece l = spec.actions_among l.self-inside.pieces ≡ spec.actions_among l.initial.self-inside.pieces

abbrev pub decreases-loop-piece : goal.decreases-loop-piece
decreases-loop-piece l = length l.self-inside.pieces
