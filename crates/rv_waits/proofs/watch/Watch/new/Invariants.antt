use Rattle.rv_waits.specs.internal.Looked.{AreNew}
use Rattle.rv_waits.proofs.watch.Watch.new.Given as goal

abbrev pub invariant-loop-h : goal.invariant-loop-h
invariant-loop-h g l = AreNew l.h l.machine.state.harts l.anchors.items
