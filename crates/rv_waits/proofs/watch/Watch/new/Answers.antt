use Rattle.std.proofs.Common.{◌≡◌, ℕ, length, arith, subst}
use Rattle.rv_waits.specs.internal.Looked.{AreNew}
use Rattle.rv_waits.proofs.WatchListLemmas.{new_watch}
use Rattle.rv_waits.proofs.watch.Watch.new.Goals as goal

pub returns : goal.returns
returns g c =
    let s = c.args.machine.now.state in
    let all : c.loop-h.h ≡ length s.harts = omega (arith, c.harts-h-end.ensures.value, c.loop-h-test.false, c.loop-h.auto.h-end) in
    new_watch s c.loop-h.anchors.items (subst (λ (k : ℕ). AreNew k s.harts c.loop-h.anchors.items) all c.loop-h.invariant)
