use Rattle.std.proofs.Common.{◌≡◌, ◌<◌, Option, length, ap, sym, subst, ◌∙◌, arith}
use Rattle.std.specs.Prelude.{option_map}
use Rattle.rv_collide.specs.Begun.{Begun}
use Rattle.rv_collide.specs.Detected.{Adds, Turns}
use Rattle.rv_collide.specs.Forced.{Turn}
use Rattle.rv_collide.specs.Plan.{Numbers}
use Rattle.rv_collide.specs.declared.entry.Entry.TheVariants.{Paused}
use Rattle.rv_walk.specs.declared.probe.Held.{Held}
use Rattle.rv_walk.specs.internal.Probing.{IsProbing, IsReady, Probing}
use Rattle.rv_walk.proofs.ProbingLemmas.{holds_now, holds_on, less, stepped, with}
use Rattle.rv_walk.proofs.probe.Prober.advance_apart.Goals as goal

pub before-before-requires-clause-anchor : goal.before-before-requires-clause-anchor
before-before-requires-clause-anchor g c =
    let s = c.machine.result.now.state in
    let count : length c.self.inside.watch ≡ length s.harts = (c.self.invariant.watched s c.machine.ensures).count in
    let harts : length s.harts ≡ c.self.inside.detector.plan.harts = c.facts.ensures.harts s c.machine.ensures in
    let ready : IsReady _ c.args.h = subst (λ (q : Probing). IsReady q c.args.h) (sym c.self.view_is) c.requires.ready in
    let below : c.args.h < c.self.inside.detector.plan.harts = ready.is_hart in
    omega arith

pub saw-requires-clause-anchor : goal.saw-requires-clause-anchor
saw-requires-clause-anchor g c =
    let s = c.machine.result.now.state in
    let count : length c.self.inside.watch ≡ length s.harts = (c.self.invariant.watched s c.machine.ensures).count in
    let harts : length s.harts ≡ c.self.inside.detector.plan.harts = c.facts.ensures.harts s c.machine.ensures in
    let ready : IsReady _ c.args.h = subst (λ (q : Probing). IsReady q c.args.h) (sym c.self.view_is) c.requires.ready in
    let below : c.args.h < c.self.inside.detector.plan.harts = ready.is_hart in
    omega arith

pub saw-requires-clause-hart : goal.saw-requires-clause-hart
saw-requires-clause-hart g c =
    let u = c.machine-in-Ok-Stepped.result.now.state in
    let plan : c.turn.new.self.plan ≡ c.self.inside.detector.plan = ap (λ (b : Begun). b.plan) (subst (Turns c.self.inside.detector c.turn.new.self c.args.h) c.in-Ok-Stepped.field-0-is c.in-Ok-Stepped.ensures.ok).0.is_added in
    let harts : length u.harts ≡ c.turn.new.self.plan.harts = c.facts-in-Ok-Stepped.ensures.harts u c.machine-in-Ok-Stepped.ensures in
    let ready : IsReady _ c.args.h = subst (λ (q : Probing). IsReady q c.args.h) (sym c.self.view_is) c.requires.ready in
    let below : c.args.h < c.self.inside.detector.plan.harts = ready.is_hart in
    let same : c.turn.new.self.plan.harts ≡ c.self.inside.detector.plan.harts = ap (λ p. p.harts) plan in
    omega arith

pub invariant_of-self : goal.invariant_of-self
invariant_of-self g c =
    let p : Probing = record { aim = record { addresses = c.self.inside.addresses; sites = c.self.inside.sites.now }; core = c.self.inside.detector; held = c.self.inside.held } in
    let s = c.machine.result.now.state in
    let u = c.machine-in-Ok-Stepped.result.now.state in
    let ready : IsReady p c.args.h = subst (λ (q : Probing). IsReady q c.args.h) (sym c.self.view_is) c.requires.ready in
    let is : IsProbing (with p c.turn.new.self (option_map less p.held)) c.saw.new.self =
    stepped c.longer_lists.ensures.stay c.open_pauses.ensures p c.self.inside.watch c.saw.new.self c.turn.new.self c.args.h c.in-Ok-Stepped.event s u c.self.invariant ready (subst (Turns p.core c.turn.new.self c.args.h) c.in-Ok-Stepped.field-0-is c.in-Ok-Stepped.ensures.ok) c.machine.ensures c.machine-in-Ok-Stepped.ensures
    (λ step. c.saw.ensures s (c.self.invariant.watched s c.machine.ensures) c.before-before.ensures step) in
    subst (λ (o : Option Held). IsProbing (with p c.turn.new.self o) c.saw.new.self) (sym c.count_down.ensures) is

pub invariant_of-self-then-is_none : goal.invariant_of-self-then-is_none
invariant_of-self-then-is_none g c =
    let p : Probing = record { aim = record { addresses = c.self.inside.addresses; sites = c.self.inside.sites.now }; core = c.self.inside.detector; held = c.self.inside.held } in
    let ready : IsReady p c.args.h = subst (λ (q : Probing). IsReady q c.args.h) (sym c.self.view_is) c.requires.ready in
    let adds : Adds p.core c.turn.new.self (Turn c.args.h) (Paused c.args.h c.in-Ok-Paused.field-0-0) = subst (Turns p.core c.turn.new.self c.args.h) c.in-Ok-Paused.field-0-is c.in-Ok-Paused.ensures.ok in
    let left : c.plan.result.pause ≡ p.core.plan.pause = ap (λ (n : Numbers). n.pause) c.plan.ensures ∙ ap (λ (b : Begun). b.plan.pause) adds.is_added in
    holds_now c.longer_lists.ensures.stay c.open_pauses.ensures p c.self.inside.watch c.turn.new.self c.args.h c.plan.result.pause c.in-Ok-Paused.field-0-0 c.self.invariant ready adds left

pub invariant_of-self-else-is_none : goal.invariant_of-self-else-is_none
invariant_of-self-else-is_none g c =
    let p : Probing = record { aim = record { addresses = c.self.inside.addresses; sites = c.self.inside.sites.now }; core = c.self.inside.detector; held = c.self.inside.held } in
    let ready : IsReady p c.args.h = subst (λ (q : Probing). IsReady q c.args.h) (sym c.self.view_is) c.requires.ready in
    holds_on c.longer_lists.ensures.stay c.open_pauses.ensures p c.self.inside.watch c.turn.new.self c.args.h c.in-Ok-Paused.field-0-0 c.self.invariant ready (subst (Turns p.core c.turn.new.self c.args.h) c.in-Ok-Paused.field-0-is c.in-Ok-Paused.ensures.ok)
