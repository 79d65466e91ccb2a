use Rattle.std.proofs.Common.{◌≡◌, ◌∙◌, ◌<◌, ap, get_or, length, refl, rules, subst, sym, true}
use Rattle.std.proofs.lemmas.List.Elements.{All-push}
use Rattle.std.proofs.lemmas.Option.{slice_get-get_or}
use Rattle.rv_debug.specs.Placed.{Placed}
use Rattle.rv_explain.specs.Races.{Run, run_of}
use Rattle.rv_remade.proofs.OrderShowingLemmas.{is_placed}
use Rattle.rv_remade.specs.declared.orders.PlacedTrial.{PlacedTrial}
use Rattle.rv_remade.specs.OrderShown.{IsTrialIn}
use Rattle.rv_remade.specs.internal.OrderShowing.{AreMade, IsPlaced, reports_of}
use Rattle.rv_remade.proofs.orders.Again.add_part.Goals as goal

pub loop-number-preserved : goal.loop-number-preserved
loop-number-preserved c =
    let again = c.args.self.now in
    let inv = c.loop-number.invariant in
    let same = c.in_ok-trial.ensures.same in
    let wanted = get_or again.wanted.now c.loop-number.number _ in
    let below : c.loop-number.number < length again.wanted.now = search rules in
    let names : c.is_of.result ≡ true = search rules in
    let is = subst (λ (r : Run). IsTrialIn r again.hunt.now.ranges wanted.key wanted.at.number c.in-Some.trial) inv.run (rw c.in-Some.is at c.in_ok-trial.ensures.trial) in
    let trial : PlacedTrial = record { place = wanted.place; made = c.in-Some.trial; before = c.in_ok-before.before; harts = c.args.left.plan.harts } in
    let placed : IsPlaced again trial =
    is_placed again c.args.of.run c.args.left c.loop-number.number wanted trial c.requires (c.is_of.ensures names) (slice_get-get_or again.wanted.now c.loop-number.number _ below) refl is
    in
    record {
      made = λ before. subst (AreMade again) (sym c.in_ok-push.ensures.items) (All-push (IsPlaced again) c.loop-number.made.items trial (inv.made before) placed);
      plan = inv.plan ∙ ap (λ (p : Placed). p.plan) (sym same);
      image = ap (λ (p : Placed). p.image) same ∙ inv.image;
      reports = inv.reports ∙ ap (λ (p : Placed). reports_of again (run_of p)) (sym same);
      run = ap run_of same ∙ inv.run;
    }
