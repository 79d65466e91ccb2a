use Rattle.std.proofs.Common.{◌≡◌, ◌∙◌, ◌+◌, ◌<◌, ◌≤◌, sym, ap, subst, arith}
use Rattle.std.specs.Prelude.{IfSome}
use Rattle.std.specs.Option.{option_or}
use Rattle.rv_retrace.proofs.SearchLemmas.{last_more, near_more}
use Rattle.rv_retrace.proofs.VisitLemmas.{next_here, next_there}
use Rattle.rv_retrace.specs.Going.{stop_back}
use Rattle.rv_retrace.proofs.backwards.last_from.Goals as goal

pub loop-place-preserved : goal.loop-place-preserved
loop-place-preserved c =
    let p = c.args.session.now in
    let at = stop_back p c.args.points.now c.args.aims.now in
    let next = c.in_ok-_access.ensures.after in
    let more = last_more at c.args.visit.place c.loop-place.place (omega arith) in
    let here : c.stop_here.result ≡ at c.loop-place.place = c.stop_here.ensures.value ∙ ap at c.loop-place.invariant.there in
    let near = subst (λ k. IfSome c.stop_here.result (λ stop. (stop.hart < 16) × (stop.place ≤ k + 1))) c.loop-place.invariant.there c.stop_here.ensures.near in
    record {
      there = next_there p c.loop-place.visit.place c.loop-place.place _ c.loop-place.invariant.there next;
      here = next_here p c.loop-place.visit.place _ next;
      last = c.later-last.ensures ∙ ap (λ o. option_or o c.loop-place.last) here ∙ ap (λ o. option_or (at c.loop-place.place) o) c.loop-place.invariant.last ∙ sym more;
      near = subst (λ o. IfSome o (λ stop. (stop.hart < 16) × (stop.place ≤ c.loop-place.place + 1))) (sym c.later-last.ensures) (near_more c.stop_here.result c.loop-place.last c.loop-place.place near c.loop-place.invariant.near);
    }
