use Rattle.std.proofs.Common.{◌≡◌, ◌<◌, ◌+◌, [], Option, take, sym, ap, subst, ◌∙◌, arith}
use Rattle.rv_collide.specs.Legal.{IsLegal}
use Rattle.rv_collide.specs.Made.{made}
use Rattle.rv_collide.specs.Numbers.{numbers}
use Rattle.rv_collide.specs.Stored.{Stored, setting_of, stored}
use Rattle.rv_report.specs.declared.exhibiting.Other.{Other}
use Rattle.rv_report.specs.internal.Paused.{LastBefore}
use Rattle.rv_report.proofs.Exhibits.{none_yet, one_place}
use Rattle.rv_report.proofs.exhibiting.last_store.Goals as goal

pub advance-access-requires-clause-legal : goal.advance-access-requires-clause-legal
advance-access-requires-clause-legal c =
    subst (λ (s : Stored). IsLegal (setting_of s) c.args.entries.now) (sym c.loop-place.invariant.told) c.requires.legal

pub advance-access-requires-clause-here : goal.advance-access-requires-clause-here
advance-access-requires-clause-here c = ap (λ (s : Stored). s.entries) c.loop-place.invariant.told

pub loop-place-init : goal.loop-place-init
loop-place-init c = record {
  told = c.in_ok-collider.ensures;
  last = none_yet (setting_of (stored c.args.image.now (numbers c.args.plan) [])).start c.args.entries.now c.args.told.now;
}

pub loop-place-preserved : goal.loop-place-preserved
loop-place-preserved c =
    let after : c.args.told.now.paused_at < c.loop-place.place = omega arith in
    let made_there : c.advance-access.result ≡ made (setting_of (stored c.args.image.now (numbers c.args.plan) [])).start c.args.entries.now c.loop-place.place =
    c.advance-access.ensures.access ∙ ap (λ (s : Stored). made (setting_of s).start c.args.entries.now c.loop-place.place) c.loop-place.invariant.told in
    record {
      told = c.advance-access.ensures.after ∙ ap (λ (s : Stored). stored s.image s.plan (take (c.loop-place.place + 1) c.args.entries.now)) c.loop-place.invariant.told;
      last = subst (λ (o : Option Other). LastBefore (setting_of (stored c.args.image.now (numbers c.args.plan) [])).start c.args.entries.now c.args.told.now (c.loop-place.place + 1) o) (sym c.last_after-last.ensures)
          (one_place (setting_of (stored c.args.image.now (numbers c.args.plan) [])).start c.args.entries.now c.args.told.now c.loop-place.place c.loop-place.last c.advance-access.result after made_there c.loop-place.invariant.last);
    }
