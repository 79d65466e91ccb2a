use Rattle.std.proofs.Common.{length, sym, ◌∙◌}
use Rattle.rv_collide.specs.Stored.{setting_of}
use Rattle.rv_drive.proofs.AheadLemmas.{none_due, some_len}
use Rattle.rv_drive.proofs.ahead.Ahead.due.Goals as goal

pub returns-then-self-clause-value : goal.returns-then-self-clause-value
returns-then-self-clause-value c =
    none_due (setting_of c.args.self.now.collider) c.args.self.now.collider.entries c.args.self.now.made c.args.self.now.made_at c.args.self.now.able.items c.args.self.now.earliest c.requires.kept c.requires.able_are c.requires.lasts c.if-self.true
    (some_len _ (length c.args.self.now.able.items) (sym c.is_empty.ensures ∙ c.if-not-is_empty.true) c.args.self.now.able.ok.0)
