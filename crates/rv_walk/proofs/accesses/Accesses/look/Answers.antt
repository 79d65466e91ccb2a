use Rattle.std.proofs.Common.{◌≡◌, Some, sym, subst}
use Rattle.std.specs.Prelude.{slice_get}
use Rattle.rv_walk.specs.internal.Inside.{AreOf}
use Rattle.rv_walk.proofs.KeptLemmas.{made_at, noted}
use Rattle.rv_walk.proofs.accesses.Accesses.look.Goals as goal
use Rattle.rv_walk.proofs.accesses.Accesses.look.Goals.{then-kept-seen+in_ok-pair, else-kept-seen+then-kept-seen-2+else-eq, else-kept-seen+else-kept-seen-2}

pub returns-in_err-pair : goal.returns-in_err-pair
returns-in_err-pair c =
    let at : slice_get c.loop.self.kept.items c.loop.spot.place ≡ Some c.in-Some.kept = cc in
    λ walk sites made are.
    let before = c.loop.invariant walk sites made are in
    noted walk c.loop.self c.pair.new.self c.pair.ensures.kept (c.pair.ensures.closest walk sites (made_at walk c.loop.self.kept.items c.loop.spot.place c.in-Some.kept before.made at) made before.near) before

pub loop-preserved : goal.loop-preserved
loop-preserved c =
    let at : slice_get c.loop.self.kept.items c.loop.spot.place ≡ Some c.in-Some.kept = cc in
    λ walk sites made are.
    let before = c.loop.invariant walk sites made are in
    elim c.if-kept-seen.branch [
      | then-kept-seen+in_ok-pair w ↦ subst (AreOf walk) (sym w.self-is) (noted walk c.loop.self w.pair.new.self w.pair.ensures.kept (w.pair.ensures.closest walk sites (made_at walk c.loop.self.kept.items c.loop.spot.place c.in-Some.kept before.made at) made before.near) before)
      | else-kept-seen+then-kept-seen-2+else-eq w ↦ subst (AreOf walk) (sym w.self-is) before
      | else-kept-seen+else-kept-seen-2 w ↦ subst (AreOf walk) (sym w.self-is) before
    ]
