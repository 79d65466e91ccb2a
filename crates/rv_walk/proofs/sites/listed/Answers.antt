use Rattle.std.proofs.Common.{ℕ, List, ◌++◌, ◌∷◌, [], ap, sym, ◌∙◌}
use Rattle.rv_walk.proofs.TakeLemmas.{take_next}
use Rattle.rv_walk.proofs.sites.listed.Goals as goal

pub loop-place-preserved : goal.loop-place-preserved
loop-place-preserved c = c.in_ok-push.ensures.items ∙ ap (λ (xs : List ℕ). xs ++ c.in_ok-address.address ∷ []) c.loop-place.invariant ∙ sym (take_next c.args.sampler.now c.loop-place.place c.in_ok-address.address c.in_ok-address.ensures)
