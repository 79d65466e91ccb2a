use Rattle.std.proofs.Common.{◌≡◌, ◌≤◌, List, length, arith, subst, sym}
use Rattle.rv_waits.specs.Watch.{IsWatchOf}
use Rattle.rv_waits.specs.declared.watch.Anchor.{Anchor}
use Rattle.rv_waits.proofs.WatchListLemmas.{looked_all}
use Rattle.rv_waits.proofs.watch.Watch.look.Goals as goal

pub returns : goal.returns
returns c =
    let h = c.args.h in
    let items : List Anchor = c.self.inside.anchors.items in
    let now : List Anchor = c.loop-k.self-inside.anchors.items in
    let view : items ≡ c.args.self.now = cc in
    let past : length now ≤ c.loop-k.k = omega (arith, c.loop-k-test.false, c.loop-k.invariant.count) in
    λ before after event watch. looked_all c.steps_are_local.ensures c.what_no_step_does.ensures.other_harts c.what_no_step_does.ensures.other_bytes c.store_keeps_the_rest.ensures.bytes c.store_keeps_the_rest.ensures.permissions c.loop-k.k h c.args.first c.args.size items now c.loop-k.invariant past before after event
    (subst (λ (l : List Anchor). IsWatchOf l before) (sym view) watch)
