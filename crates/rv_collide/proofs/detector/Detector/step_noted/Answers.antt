use Rattle.std.proofs.Common.{◌≡◌, ◌+◌, ◌*◌, ◌≤◌, ℕ, List, true, length, sym, ap, subst, ◌∙◌}
use Rattle.std.specs.Prelude.{IfSome, Option, Some, option_and_then, option_map}
use Rattle.rv_break.specs.Breakpoints.{Breaks}
use Rattle.rv_hart.specs.Common.{event_of_common}
use Rattle.rv_hart.specs.NextAccess.{accessed}
use Rattle.rv_hart.specs.Step.{step_of}
use Rattle.rv_hart.specs.declared.access.Event.{Event}
use Rattle.rv_collide.specs.Detected.{IsEvent, Turns}
use Rattle.rv_collide.specs.Next.{runs_at}
use Rattle.rv_collide.specs.Numbers.{numbers}
use Rattle.rv_collide.specs.Begun.{Begun, setting_of, begun}
use Rattle.rv_collide.specs.declared.collider.Turned.TheVariants as turned
use Rattle.rv_collide.specs.declared.entry.Entry.{Entry}
use Rattle.rv_collide.specs.internal.Core.{IsCore, slots_seen}
use Rattle.rv_collide.specs.internal.GoesOn.{GoesOn}
use Rattle.rv_collide.proofs.GoesOn.{step_forced}
use Rattle.rv_collide.proofs.Until.{until_kept}
use Rattle.rv_collide.proofs.QuickTurns.{made}
use Rattle.rv_collide.proofs.Growth.{core_step}
use Rattle.rv_collide.proofs.LawLemmas.{runs_in}
use Rattle.rv_collide.proofs.detector.Detector.step_noted.Goals as goal

pub common_step-common-requires-clause-running : goal.common_step-common-requires-clause-running
common_step-common-requires-clause-running g c =
    let s = setting_of (begun c.self.inside.begin.value.state (numbers c.self.inside.plan) c.self.inside.entries.items) in
    let runs = subst (λ (v : Begun). runs_at (setting_of v).start v.entries (length v.entries) c.args.h ≡ true) (sym c.self.view_is) (sym c.runs.ensures ∙ c.if-not-runs.false) in
    runs_in s.start c.self.inside.machine.state c.self.inside.entries.items (length c.self.inside.entries.items) c.args.h c.self.invariant.0.now runs

pub invariant_of-self-2 : goal.invariant_of-self-2
invariant_of-self-2 g c =
    let s = setting_of (begun c.self.inside.begin.value.state (numbers c.self.inside.plan) c.self.inside.entries.items) in
    let event = made c.common_step-common.result c.common_step-common.new.noted.access c.in_default.not-Untaken in
    let step : step_of c.self.inside.machine.state c.args.h ≡ Some (event.event, c.common_step-common.new.machine.state) =
    subst (λ (o : Option Event). IfSome o (λ e. step_of c.self.inside.machine.state c.args.h ≡ Some (e, c.common_step-common.new.machine.state))) event.event_is c.common_step-common.ensures.step in
    let goes = subst (λ (v : Begun). GoesOn v c.args.h) (sym c.self.view_is) (c.goes_on.ensures c.if-not-goes_on.false) in
    let ok = step_forced (begun c.self.inside.begin.value.state (numbers c.self.inside.plan) c.self.inside.entries.items) c.self.inside.machine.state c.args.h (event.event, c.common_step-common.new.machine.state) c.self.invariant.0.now c.self.invariant.0.harts goes step in
    let size = c.len-place.ensures ∙ c.self.inside.entries.ok.0 in
    let seen = λ (place : ℕ) (o : Option Event). slots_seen (option_map (λ access. record { place = place; hart = c.args.h; access = access }) (option_and_then accessed o)) c.self.inside.breaks.slots in (
      subst (λ (ys : List Entry). IsCore s ys c.common_step-common.new.machine c.show_noted.new.breaks c.self.inside.openings.items c.self.inside.endings.items (c.self.inside.steps + 1) c.self.inside.arms) (sym c.push_reserved.ensures.items)
          (core_step c.reservations_and_accesses.ensures.next c.what_no_step_does.ensures.output s c.self.inside.entries.items c.self.inside.machine c.common_step-common.new.machine c.self.inside.breaks c.show_noted.new.breaks c.self.inside.openings.items c.self.inside.endings.items c.self.inside.steps c.self.inside.arms c.args.h event.event c.self.invariant.0 ok step c.common_step-common.ensures.harts c.common_step-common.ensures.limit
          (ap (λ (b : Breaks). b.armed) c.show_noted.ensures)
          (ap (λ (b : Breaks). b.slots) c.show_noted.ensures ∙ ap (seen c.len-place.result) event.event_is ∙ ap (λ n. seen n (Some event.event)) size)),
      record {
        for_entries = subst (λ (n : ℕ). s.plan.steps + 4 * s.plan.arms ≤ n) (sym c.push_reserved.ensures.capacity) c.self.invariant.1.for_entries;
        for_openings = c.self.invariant.1.for_openings;
        for_endings = c.self.invariant.1.for_endings;
      },
      until_kept c.self.inside.plan.steps c.self.inside.until c.self.inside.breaks c.show_noted.new.breaks c.self.inside.openings.items (ap (λ (b : Breaks). b.armed) c.show_noted.ensures) c.self.invariant.2,
      c.self.invariant.3,
    )

pub returns-clause-steps : goal.returns-clause-steps
returns-clause-steps g c =
    let was = begun c.self.inside.begin.value.state (numbers c.self.inside.plan) c.self.inside.entries.items in
    let event = made c.common_step-common.result c.common_step-common.new.noted.access c.in_default.not-Untaken in
    let step : step_of c.self.inside.machine.state c.args.h ≡ Some (event.event, c.common_step-common.new.machine.state) =
    subst (λ (o : Option Event). IfSome o (λ e. step_of c.self.inside.machine.state c.args.h ≡ Some (e, c.common_step-common.new.machine.state))) event.event_is c.common_step-common.ensures.step in
    let goes = subst (λ (v : Begun). GoesOn v c.args.h) (sym c.self.view_is) (c.goes_on.ensures c.if-not-goes_on.false) in
    let ok = step_forced was c.self.inside.machine.state c.args.h (event.event, c.common_step-common.new.machine.state) c.self.invariant.0.now c.self.invariant.0.harts goes step in
    let is : IsEvent was c.args.h event.event = record { state = c.self.inside.machine.state; after = c.common_step-common.new.machine.state; reached = c.self.invariant.0.now; step = step } in
    let more = ap (λ ys. begun c.self.inside.begin.value.state (numbers c.self.inside.plan) ys) c.push_reserved.ensures.items in
    let later = begun c.self.inside.begin.value.state (numbers c.self.inside.plan) c.push_reserved.new.self.items in
    subst (λ (v : Begun). IfSome (event_of_common c.common_step-common.result c.common_step-common.new.noted.access) (λ e. Turns v later c.args.h (turned.Stepped e))) c.self.view_is
    (subst (λ (o : Option Event). IfSome o (λ e. Turns was later c.args.h (turned.Stepped e))) (sym event.event_is) (record { is_forced = ok; is_added = more }, is))
