use Rattle.std.proofs.Common.{◌≡◌, ◌<◌, ◌≤◌, length, subst, true}
use Rattle.std.specs.Prelude.{IfNone, IfSome}
use Rattle.rv_drive.specs.Able.{able, is_able}
use Rattle.rv_collide.specs.Stored.{Stored, setting_of}
use Rattle.rv_drive.proofs.AheadLemmas.{nth_able, nth_hart, nth_none}
use Rattle.rv_drive.proofs.driver.Driver.nth.Goals as goal

pub returns-clause-hart : goal.returns-clause-hart
returns-clause-hart c =
    subst (λ (s : Stored). IfSome c.nth.result (λ h. h < s.plan.harts)) c.self.view_is
    (nth_hart (setting_of c.self.inside.ahead.collider) c.self.inside.ahead.collider.entries c.args.index c.nth.result c.nth.ensures)

pub returns-clause-able : goal.returns-clause-able
returns-clause-able c =
    subst (λ (s : Stored). IfSome c.nth.result (λ h. is_able (setting_of s) s.entries h ≡ true)) c.self.view_is
    (nth_able (setting_of c.self.inside.ahead.collider) c.self.inside.ahead.collider.entries c.args.index c.nth.result c.nth.ensures)

pub returns-clause-none : goal.returns-clause-none
returns-clause-none c =
    subst (λ (s : Stored). IfNone c.nth.result (length (able (setting_of s) s.entries) ≤ c.args.index)) c.self.view_is
    (nth_none (setting_of c.self.inside.ahead.collider) c.self.inside.ahead.collider.entries c.args.index c.nth.result c.nth.ensures)
