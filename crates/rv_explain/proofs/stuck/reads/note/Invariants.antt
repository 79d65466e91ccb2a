-- the bytes so far are noted
use Rattle.std.proofs.Common.{◌≡◌, ◌++◌, Some, drop, map, take}
use Rattle.rv_explain.specs.internal.Writers.{noted}
use Rattle.rv_explain.proofs.stuck.reads.note.Given as goal

abbrev pub invariant-loop-read : goal.invariant-loop-read
invariant-loop-read l = l.reads ≡ map (noted (Some l.writer) (Some l.access)) (take l.read-index l.initial.reads) ++ drop l.read-index l.initial.reads
