-- what the harts so far read
use Rattle.std.proofs.Common.{◌≡◌, map, take}
use Rattle.rv_stuck.specs.Acts.{conduct_in}
use Rattle.rv_explain.specs.internal.Writers.{reads_unwritten}
use Rattle.rv_explain.proofs.stuck.reads.reads_of.Given as goal

abbrev pub invariant-loop-h : goal.invariant-loop-h
invariant-loop-h l = l.reads.items ≡ map (reads_unwritten l.machine.state.memory) (map conduct_in (take l.h l.acts))
