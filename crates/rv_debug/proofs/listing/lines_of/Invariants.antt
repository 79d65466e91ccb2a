-- the lines so far, and those that are left
use Rattle.std.proofs.Common.{◌≡◌, ◌+◌, ◌*◌, ◌-◌, ◌++◌, map}
use Rattle.std.specs.Prelude.{option_map}
use Rattle.std.specs.String.{string_bytes}
use Rattle.rv_debug.specs.Answers.{line_at, series}
use Rattle.rv_debug.proofs.listing.lines_of.Given as goal

abbrev pub invariant-loop-i : goal.invariant-loop-i
invariant-loop-i g l =
    series (line_at l.machine.state.memory) 4 l.address l.count ≡ option_map (λ ls. map (λ line. string_bytes line) l.lines.items ++ ls) (series (line_at l.machine.state.memory) 4 (l.address + 4 * l.i) (l.count - l.i))
