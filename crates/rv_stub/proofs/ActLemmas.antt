-- Actions whose threads are there make a run go on.
use Rattle.std.proofs.Common.{◌≡◌, List, true, Some, length, refl}
use Rattle.rv_debug.specs.Placed.{state}
use Rattle.rv_gdb.specs.declared.action.Action.{Action}
use Rattle.rv_hart.specs.State.{State}
use Rattle.rv_stub.specs.Resumption.{of_actions}
use Rattle.rv_stub.specs.Answers.{acting, name_harts, resuming}
use Rattle.rv_stub.specs.Standing.{Standing}

pub acts : (t : Standing) (actions : List Action) (s : State) → state t.run ≡ Some s → name_harts (length s.harts) actions ≡ true → acting t actions ≡ resuming t (of_actions actions)
acts t actions s there named = rw (there, named) refl
