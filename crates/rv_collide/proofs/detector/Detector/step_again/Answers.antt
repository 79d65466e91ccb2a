use Rattle.std.proofs.Common.{◌≡◌, ℕ, true, false, get_or, subst}
use Rattle.rv_collide.proofs.RowLemmas.{accepted, free_goes}
use Rattle.rv_collide.proofs.detector.Detector.step_again.Goals as goal

pub step_on-requires-clause-accepted : goal.step_on-requires-clause-accepted
step_on-requires-clause-accepted g c =
    accepted c.args.self.now c.in-Stepped.h (c.requires.able c.in-Stepped.h (subst (λ (n : ℕ). get_or c.args.able.now n false ≡ true) c.from.ensures c.if-not-able-from.false)) c.requires.left

pub step_on-requires-clause-goes_on : goal.step_on-requires-clause-goes_on
step_on-requires-clause-goes_on g c = λ off.
    free_goes c.args.self.now c.in-Stepped.h (c.requires.able c.in-Stepped.h (subst (λ (n : ℕ). get_or c.args.able.now n false ≡ true) c.from.ensures c.if-not-able-from.false)) c.requires.left (c.requires.free off)
