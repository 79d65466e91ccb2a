use Rattle.std.proofs.Common.{◌≡◌, [], true, rules}
use Rattle.rv_collide.specs.Numbers.{numbers}
use Rattle.rv_collide.specs.Stored.{setting_of, stored}
use Rattle.rv_report.proofs.Exhibits.{stands}
use Rattle.rv_report.proofs.exhibiting.exhibit.Goals as goal

pub returns-clause-side_by_side : goal.returns-clause-side_by_side
returns-clause-side_by_side c =
    let holds : c.in_ok-same.same ≡ true = first_of (cc, search rules) in
    stands (setting_of (stored c.args.image.now (numbers c.args.plan) [])) c.args.entries.now c.args.n c.in_ok-told.told c.in_ok-other.other c.in_ok-same.same c.in_ok-told.ensures.legal c.in_ok-told.ensures.ending c.in_ok-other.ensures c.in_ok-same.ensures c.side_by_side.ensures c.in_ok-told.ensures.of_pause holds c.in_ok-harts.harts.items c.in_ok-harts.ensures
