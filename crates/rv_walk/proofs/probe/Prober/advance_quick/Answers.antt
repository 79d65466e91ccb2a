use Rattle.std.proofs.Common.{◌≡◌, ◌<◌, None, Some, Option, length, ap, sym, subst, arith}
use Rattle.std.specs.Prelude.{option_map}
use Rattle.rv_collide.specs.Begun.{Begun}
use Rattle.rv_hart.specs.declared.access.Event.TheVariants.{Moved}
use Rattle.rv_walk.specs.declared.probe.Held.{Held}
use Rattle.rv_walk.specs.internal.Probing.{IsProbing, IsReady, Probing}
use Rattle.rv_walk.proofs.ProbingLemmas.{less, stepped, with}
use Rattle.rv_walk.proofs.probe.Prober.advance_quick.Goals as goal

pub saw-requires-in-Accessed : goal.saw-requires-in-Accessed
saw-requires-in-Accessed g c =
    let s = c.machine-machine.result.now.state in
    let u = c.machine-in-Accessed.result.now.state in
    let count : length c.self.inside.watch ≡ length s.harts = (c.self.invariant.watched s c.machine-machine.ensures).count in
    let harts : length s.harts ≡ c.self.inside.detector.plan.harts = c.facts.ensures.harts s c.machine-machine.ensures in
    let plan : c.step_noted-common.new.self.plan ≡ c.self.inside.detector.plan = ap (λ (b : Begun). b.plan) c.in-Accessed.ensures.steps.0.is_added in
    let later : length u.harts ≡ c.step_noted-common.new.self.plan.harts = c.facts-in-Accessed.ensures.harts u c.machine-in-Accessed.ensures in
    let same : c.step_noted-common.new.self.plan.harts ≡ c.self.inside.detector.plan.harts = ap (λ p. p.harts) plan in
    let ready : IsReady _ c.args.h = subst (λ (q : Probing). IsReady q c.args.h) (sym c.self.view_is) c.requires.ready in
    let below : c.args.h < c.self.inside.detector.plan.harts = ready.is_hart in
    record { hart = omega arith; anchor = omega arith }

pub invariant_of-self : goal.invariant_of-self
invariant_of-self g c =
    let p : Probing = record { aim = record { addresses = c.self.inside.addresses; sites = c.self.inside.sites.now }; core = c.self.inside.detector; held = c.self.inside.held } in
    let s = c.machine-machine.result.now.state in
    let u = c.machine.result.now.state in
    let ready : IsReady p c.args.h = subst (λ (q : Probing). IsReady q c.args.h) (sym c.self.view_is) c.requires.ready in
    let is : IsProbing (with p c.step_noted-common.new.self (option_map less p.held)) c.saw.new.self =
    stepped c.longer_lists.ensures.stay c.open_pauses.ensures p c.self.inside.watch c.saw.new.self c.step_noted-common.new.self c.args.h (Moved None) s u c.self.invariant ready c.in-Silent.ensures.steps c.machine-machine.ensures c.machine.ensures
    (λ step. c.saw.ensures s (c.self.invariant.watched s c.machine-machine.ensures) c.before_word-before.ensures step) in
    subst (λ (o : Option Held). IsProbing (with p c.step_noted-common.new.self o) c.saw.new.self) (sym c.count_down.ensures) is

pub invariant_of-self-in-Accessed : goal.invariant_of-self-in-Accessed
invariant_of-self-in-Accessed g c =
    let p : Probing = record { aim = record { addresses = c.self.inside.addresses; sites = c.self.inside.sites.now }; core = c.self.inside.detector; held = c.self.inside.held } in
    let s = c.machine-machine.result.now.state in
    let u = c.machine-in-Accessed.result.now.state in
    let ready : IsReady p c.args.h = subst (λ (q : Probing). IsReady q c.args.h) (sym c.self.view_is) c.requires.ready in
    let is : IsProbing (with p c.step_noted-common.new.self (option_map less p.held)) c.saw-in-Accessed.new.self =
    stepped c.longer_lists.ensures.stay c.open_pauses.ensures p c.self.inside.watch c.saw-in-Accessed.new.self c.step_noted-common.new.self c.args.h (Moved (Some c.step_noted-common.new.noted.access)) s u c.self.invariant ready c.in-Accessed.ensures.steps c.machine-machine.ensures c.machine-in-Accessed.ensures
    (λ step. c.saw-in-Accessed.ensures s (c.self.invariant.watched s c.machine-machine.ensures) c.before_word-before.ensures step) in
    subst (λ (o : Option Held). IsProbing (with p c.step_noted-common.new.self o) c.saw-in-Accessed.new.self) (sym c.count_down-in-Accessed.ensures) is
