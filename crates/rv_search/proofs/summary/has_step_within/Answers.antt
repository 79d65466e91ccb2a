use Rattle.std.proofs.Common.{◌+◌, ◌-◌, arith, sym, subst, suc, ℕ, ◌≡◌, ◌∙◌, ap, Bool, false}
use Rattle.std.specs.Prelude.{is_some}
use Rattle.std.specs.List.{list_any, range_with_len}
use Rattle.rv_collide.specs.Entries.{between, stepped_at}
use Rattle.rv_collide.specs.Pause.{within}
use Rattle.rv_search.specs.Summary.{has_step_within}
use Rattle.rv_search.proofs.SummaryLemmas.{any_there, none_more, none_of_fewer}
use Rattle.rv_search.proofs.summary.has_step_within.Goals as goal

pub returns-then-is_step : goal.returns-then-is_step
unfolding has_step_within within between
returns-then-is_step c =
    let e = c.args.ending.now in
    let p : ℕ → Bool = λ place. is_some (stepped_at c.args.entries.now place) in
    let from = c.loop-place.invariant.from in
    let below = c.loop-place-test.true in
    let first = c.from-first.ensures in
    let last = c.from-place-end.ensures in
    sym (any_there p (e.paused_at + 1) (e.resumed_at - (e.paused_at + 1)) c.loop-place.place (omega (arith, from, first)) (omega (arith, from, below, first, last)) (sym c.is_step.ensures ∙ c.if-is_step.true))

pub loop-place-preserved : goal.loop-place-preserved
loop-place-preserved c =
    let p : ℕ → Bool = λ place. is_some (stepped_at c.args.entries.now place) in
    let a = c.from-first.result + 1 in
    let place = c.loop-place.place in
    let from = c.loop-place.invariant.from in
    let longer : place + 1 - a ≡ suc (place - a) = omega (arith, from) in
    let here : a + (place - a) ≡ place = omega (arith, from) in
    record {
      from = omega (arith, from);
      none = ap (λ n. list_any p (range_with_len a n)) longer ∙ none_more p a (place - a) c.loop-place.invariant.none (ap p here ∙ sym c.is_step.ensures ∙ c.if-is_step.false);
    }

pub returns : goal.returns
unfolding has_step_within within between
returns c =
    let e = c.args.ending.now in
    let p : ℕ → Bool = λ place. is_some (stepped_at c.args.entries.now place) in
    let place = c.loop-place.place in
    let over = c.loop-place-test.false in
    let last = c.from-place-end.ensures in
    let none : list_any p (range_with_len (e.paused_at + 1) (place - (e.paused_at + 1))) ≡ false =
    subst (λ (k : ℕ). list_any p (range_with_len (k + 1) (place - (k + 1))) ≡ false) c.from-first.ensures c.loop-place.invariant.none in
    sym (none_of_fewer p (e.paused_at + 1) (e.resumed_at - (e.paused_at + 1)) (place - (e.paused_at + 1)) none (omega (arith, over, last)))
