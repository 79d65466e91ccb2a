use Rattle.std.proofs.Common.{◌≡◌, ◌<◌, Some, List, length, arith, ap, subst, sym, ◌∙◌}
use Rattle.std.specs.Prelude.{slice_get}
use Rattle.std.proofs.lemmas.Option.{slice_get-get_or}
use Rattle.rv_waits.specs.Watch.{IsWatchOf}
use Rattle.rv_waits.specs.declared.watch.Anchor.{Anchor}
use Rattle.rv_waits.specs.internal.Moves.{IsMove}
use Rattle.rv_waits.proofs.WatchListLemmas.{watch_more}
use Rattle.rv_waits.proofs.watch.Watch.go_on.Goals as goal

pub returns : goal.returns
returns g c =
    let t = c.args.machine.now.state in
    let h = c.args.h in
    let old : Anchor = c.index_mut.result.now in
    let items : List Anchor = c.self.inside.anchors.items in
    let view : items ≡ c.args.self.now = cc in
    let within : h < length items = omega (arith, ap length view, c.requires.anchor) in
    let there : slice_get items h ≡ Some old = slice_get-get_or items h old within ∙ ap Some (sym c.index_mut.ensures.value) in
    λ before watch move. watch_more c.steps_are_local.ensures c.what_no_step_does.ensures.other_harts c.store_keeps_the_rest.ensures.bytes c.store_keeps_the_rest.ensures.permissions items t h c.args.pc c.args.access old c.gone_on.new.anchor c.hart.result.now there c.hart.ensures c.gone_on.ensures before
    (subst (λ (l : List Anchor). IsWatchOf l before) (sym view) watch) (subst (λ (l : List Anchor). IsMove l before t h c.args.pc c.args.access) (sym view) move)
