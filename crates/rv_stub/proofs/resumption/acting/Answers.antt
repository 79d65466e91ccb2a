use Rattle.std.proofs.Common.{◌≡◌, ℕ, ◌+◌, ◌<◌, ◌∙◌, false, get_or, length, sym, subst, arith}
use Rattle.std.proofs.Math.ListN.{set}
use Rattle.std.proofs.lemmas.List.{length-set}
use Rattle.std.proofs.lemmas.List.Edits.{fill_by_more}
use Rattle.std.proofs.lemmas.List.FromFn.{fill_by_all}
use Rattle.rv_stub.specs.Resumption.{has_action}
use Rattle.rv_stub.proofs.resumption.acting.Goals as goal

pub loop-hart-preserved : goal.loop-hart-preserved
loop-hart-preserved c =
    let within : c.loop-hart.hart < length c.loop-hart.harts = omega (arith, c.loop-hart.invariant.size) in
    record {
      size = length-set c.loop-hart.harts c.loop-hart.hart _ ∙ c.loop-hart.invariant.size;
      so_far = subst (λ is. (k : ℕ) → k < c.loop-hart.hart + 1 → get_or (set c.loop-hart.harts c.loop-hart.hart is) k false ≡ has_action c.args.actions.now k) (sym c.has_action.ensures) (fill_by_more (has_action c.args.actions.now) c.loop-hart.harts c.loop-hart.hart false within c.loop-hart.invariant.so_far);
    }

pub returns : goal.returns
returns c = fill_by_all (has_action c.args.actions.now) c.loop-hart.harts 16 false c.loop-hart.invariant.size (λ k lt. c.loop-hart.invariant.so_far k (omega arith))
