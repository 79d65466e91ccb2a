use Rattle.std.proofs.Common.{sym, ◌∙◌}
use Rattle.rv_collide.specs.Stored.{setting_of}
use Rattle.rv_drive.proofs.DueLemmas.{not_due}
use Rattle.rv_drive.proofs.ahead.Ahead.is_due.Goals as goal

pub returns-then-not-is_open : goal.returns-then-not-is_open
returns-then-not-is_open c = not_due (setting_of c.args.self.now.collider) c.args.self.now.collider.entries c.args.h (sym c.is_open.ensures ∙ c.if-not-is_open.true)
