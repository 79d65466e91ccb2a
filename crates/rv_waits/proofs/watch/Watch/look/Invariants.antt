use Rattle.rv_waits.specs.internal.Looked.{AreLooked}
use Rattle.rv_waits.proofs.watch.Watch.look.Given as goal

abbrev pub invariant-loop-k : goal.invariant-loop-k
invariant-loop-k l = AreLooked l.k l.h l.first l.size l.initial.self-inside.anchors.items l.self-inside.anchors.items
