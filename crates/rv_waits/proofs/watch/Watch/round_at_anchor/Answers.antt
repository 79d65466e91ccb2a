use Rattle.std.proofs.Common.{◌≡◌, true, ◌<◌, ◌≤◌, Some, List, length, arith, ap, subst, sym, ◌∙◌}
use Rattle.std.specs.Prelude.{slice_get}
use Rattle.std.proofs.lemmas.Option.{slice_get-get_or}
use Rattle.rv_hart.specs.StepLaws.{SameButReservation}
use Rattle.rv_waits.specs.declared.watch.Anchor.{Anchor}
use Rattle.rv_waits.proofs.WatchLemmas.{IsFound, anchor_found}
use Rattle.rv_waits.proofs.watch.Watch.round_at_anchor.Given as given
use Rattle.rv_waits.proofs.watch.Watch.round_at_anchor.Goals as goal

found : (g : given.Over) (c : goal.After-result-1 g) → IsFound c.args.h c.args.machine.now.state c.index-anchor.result.now.steps c.index-anchor.result.now.seen
found g c =
    let s = c.args.machine.now.state in
    let h = c.args.h in
    let a : Anchor = c.index-anchor.result.now in
    let items : List Anchor = c.self.inside.anchors.items in
    let view : items ≡ c.args.self.now = cc in
    let count : length items ≡ length s.harts = ap length view ∙ c.requires.watch.count in
    let within : h < length items = omega (arith, count, c.requires.hart) in
    let inside : slice_get items h ≡ Some a = slice_get-get_or items h a within ∙ ap Some (sym c.index-anchor.ensures) in
    let there : slice_get c.args.self.now h ≡ Some a = subst (λ (l : List Anchor). slice_get l h ≡ Some a) view inside in
    let is_set : a.is_set ≡ true = c.if-not-anchor.false in
    let some : 1 ≤ a.steps = omega (arith, c.if-anchor-eq0.false) in
    let same : SameButReservation a.hart c.hart.result.now = c.is_same_but_reservation.ensures.0 c.if-not-is_same_but_reservation.false in
    anchor_found c.steps_are_local.ensures c.store_keeps_the_rest.ensures.bytes s h c.hart.result.now a (c.requires.watch.each h a there is_set) some c.hart.ensures same

pub returns-clause-round : goal.returns-clause-round
returns-clause-round g c = (found g c).round

pub returns-clause-polls : goal.returns-clause-polls
returns-clause-polls g c = (found g c).loads

pub returns-clause-touched : goal.returns-clause-touched
returns-clause-touched g c = (found g c).touched
