-- the bytes so far, and those that are left
use Rattle.std.proofs.Common.{◌≡◌, ◌+◌, ◌-◌, ◌++◌}
use Rattle.std.specs.Prelude.{option_map}
use Rattle.rv_debug.specs.Answers.{bytes_from}
use Rattle.rv_debug.proofs.shown.bytes_of.Given as goal

abbrev pub invariant-loop-i : goal.invariant-loop-i
invariant-loop-i g l =
    bytes_from l.machine.state.memory l.address l.len ≡ option_map (λ bs. l.bytes.items ++ bs) (bytes_from l.machine.state.memory (l.address + l.i) (l.len - l.i))
