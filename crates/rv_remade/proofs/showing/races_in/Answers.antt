use Rattle.std.proofs.Common.{◌∙◌, ◌∷◌, [], Some, ap, sym, arith, length, length-append}
use Rattle.std.specs.Prelude.{slice_get}
use Rattle.std.proofs.lemmas.List.{length-set}
use Rattle.rv_remade.proofs.ShowingLemmas.{one_more, set_apart}
use Rattle.rv_remade.proofs.showing.races_in.Goals as goal

pub loop-place-preserved : goal.loop-place-preserved
loop-place-preserved c =
    let below = c.loop-place-test.true in
    let within = c.loop-place.invariant.within in
    let count = c.loop-place.invariant.count in
    let slots_count = c.loop-place.invariant.slots_count in
    let long = ap length c.in_ok-push-in-Some.ensures.items ∙ length-append c.loop-place.shown.items (c.in-Some.race ∷ []) in
    let here = c.loop-place.invariant.later c.loop-place.place (omega arith) in
    record {
      within = omega (arith, below);
      count = omega (arith, long, count);
      slots_count = ap length c.take.ensures.rest ∙ length-set c.loop-place.slots.items c.loop-place.place _ ∙ slots_count;
      held = one_more _ c.loop-place.shown.items c.push.new.self.items c.in-Some.race c.loop-place.place c.in_ok-push-in-Some.ensures.items count (sym here ∙ c.take.ensures.value ∙ ap (λ o. Some o) c.in-Some.is) c.loop-place.invariant.held;
      later = λ k after.
          ap (λ xs. slice_get xs k) c.take.ensures.rest ∙ set_apart c.loop-place.slots.items c.loop-place.place k _ (omega (arith, after))
          ∙ c.loop-place.invariant.later k (omega (arith, after));
    }
