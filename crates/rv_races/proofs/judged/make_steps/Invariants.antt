-- the machine has made the steps so far
use Rattle.std.proofs.Common.{◌≡◌, Some, take}
use Rattle.rv_hart.specs.Run.{run}
use Rattle.rv_races.proofs.judged.make_steps.Given as goal

abbrev pub invariant-loop-n : goal.invariant-loop-n
invariant-loop-n g l = run l.initial.machine.state (take l.n l.steps) ≡ Some l.machine.state
