-- what the harts so far read is noted
use Rattle.std.proofs.Common.{◌≡◌, ◌++◌, Some, drop, map, take}
use Rattle.rv_explain.specs.internal.Writers.{noted}
use Rattle.rv_explain.proofs.stuck.reads.note_all.Given as goal

abbrev pub invariant-loop-of_hart : goal.invariant-loop-of_hart
invariant-loop-of_hart l = l.reads ≡ map (map (noted (Some l.writer) (Some l.access))) (take l.of_hart-index l.initial.reads) ++ drop l.of_hart-index l.initial.reads
