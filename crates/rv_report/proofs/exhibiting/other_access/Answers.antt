use Rattle.std.proofs.Common.{[], Option, subst}
use Rattle.rv_collide.specs.Numbers.{numbers}
use Rattle.rv_collide.specs.Stored.{setting_of, stored}
use Rattle.rv_report.specs.declared.exhibiting.Other.{Other}
use Rattle.rv_report.specs.internal.Paused.{LastBefore}
use Rattle.rv_report.proofs.Exhibits.{hit_access, some_store}
use Rattle.rv_report.proofs.exhibiting.other_access.Goals as goal

pub returns-in-Hit : goal.returns-in-Hit
returns-in-Hit c =
    hit_access (setting_of (stored c.args.image.now (numbers c.args.plan) [])).start c.args.entries.now c.args.told.now c.in-Hit.seen c.requires.of_pause c.in-Hit.is

pub unreachable-requires : goal.unreachable-requires
unreachable-requires c =
    let start = (setting_of (stored c.args.image.now (numbers c.args.plan) [])).start in
    some_store start c.args.entries.now c.args.told.now c.requires.of_pause c.in-Changed.is
    (subst (λ (o : Option Other). LastBefore start c.args.entries.now c.args.told.now c.args.told.now.resumed_at o) c.in-None.is c.in_ok-other-in-Changed.ensures)
