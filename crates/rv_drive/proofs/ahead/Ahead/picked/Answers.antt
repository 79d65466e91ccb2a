use Rattle.std.proofs.Common.{◌≡◌, ℕ, length, ap, ◌∙◌, subst, get_or}
use Rattle.rv_collide.specs.Stored.{setting_of}
use Rattle.rv_drive.proofs.TurnsLemmas.{is_picked}
use Rattle.rv_drive.proofs.ahead.Ahead.picked.Goals as goal

pub returns : goal.returns
returns c =
    is_picked (setting_of c.args.self.now.collider) c.args.self.now.collider.entries c.args.self.now.able.items c.peek.result _ c.args.picker.now c.index.result.now
    c.requires.some c.peek.ensures c.requires.driver.able_are (c.requires.count ∙ ap length c.requires.driver.able_are)
    (subst (λ (i : ℕ). c.index.result.now ≡ get_or c.args.self.now.able.items i c.index.result.now) c.pick.ensures c.index.ensures)
