use Rattle.std.proofs.Common.{[]}
use Rattle.rv_collide.specs.Numbers.{numbers}
use Rattle.rv_collide.specs.Stored.{setting_of, stored}
use Rattle.rv_report.proofs.exhibiting.report.Goals as goal

pub returns-in-Hit-clause-of_pause : goal.returns-in-Hit-clause-of_pause
returns-in-Hit-clause-of_pause c =
    c.endings_are_of_pauses.ensures (setting_of (stored c.args.image.now (numbers c.args.plan) [])) c.args.entries.now c.args.n c.in_ok-told.told c.in_ok-told.ensures.legal c.in_ok-told.ensures.ending
