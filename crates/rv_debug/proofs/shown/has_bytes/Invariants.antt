-- each of the bytes so far is there
use Rattle.std.proofs.Common.{◌≡◌, ◌+◌, ◌-◌}
use Rattle.std.specs.Option.{is_some}
use Rattle.rv_debug.specs.Answers.{bytes_from}
use Rattle.rv_debug.proofs.shown.has_bytes.Given as goal

abbrev pub invariant-loop-i : goal.invariant-loop-i
invariant-loop-i g l =
    is_some (bytes_from l.machine.state.memory l.address l.len) ≡ is_some (bytes_from l.machine.state.memory (l.address + l.i) (l.len - l.i))
