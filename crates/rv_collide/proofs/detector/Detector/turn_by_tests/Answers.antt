use Rattle.std.proofs.Common.{Ok, is_ok, inl, inr, refl, sym, ap, ◌∙◌}
use Rattle.rv_collide.specs.Plan.{Numbers}
use Rattle.rv_collide.specs.Begun.{setting_of}
use Rattle.rv_collide.proofs.Calls.{turn_no_hart, turn_not_running, turn_paused, turn_spent, turn_ok, not_below, is_below}
use Rattle.rv_collide.proofs.QuickTurns.{differ}
use Rattle.rv_collide.proofs.detector.Detector.turn_by_tests.Goals as goal

pub returns-then-h-plan-clause-err : goal.returns-then-h-plan-clause-err
returns-then-h-plan-clause-err g c = inl (turn_no_hart (setting_of c.args.self.now) c.args.self.now.entries c.args.h (not_below c.args.h c.plan.result.harts c.args.self.now.plan.harts (ap (λ (n : Numbers). n.harts) c.plan.ensures) c.if-h-plan.true))

pub returns-then-not-runs-clause-err : goal.returns-then-not-runs-clause-err
returns-then-not-runs-clause-err g c = inl (turn_not_running (setting_of c.args.self.now) c.args.self.now.entries c.args.h (is_below c.args.h c.plan.result.harts c.args.self.now.plan.harts (ap (λ (n : Numbers). n.harts) c.plan.ensures) c.if-h-plan.false) (sym c.runs.ensures ∙ c.if-not-runs.true))

pub returns-then-is_paused-clause-err : goal.returns-then-is_paused-clause-err
returns-then-is_paused-clause-err g c = inl (turn_paused (setting_of c.args.self.now) c.args.self.now.entries c.args.h (is_below c.args.h c.plan.result.harts c.args.self.now.plan.harts (ap (λ (n : Numbers). n.harts) c.plan.ensures) c.if-h-plan.false) (sym c.runs.ensures ∙ c.if-not-runs.false) (sym c.is_paused.ensures ∙ c.if-is_paused.true))

pub returns-then-not-has_steps_left-clause-err : goal.returns-then-not-has_steps_left-clause-err
returns-then-not-has_steps_left-clause-err g c = inl (turn_spent (setting_of c.args.self.now) c.args.self.now.entries c.args.h (is_below c.args.h c.plan.result.harts c.args.self.now.plan.harts (ap (λ (n : Numbers). n.harts) c.plan.ensures) c.if-h-plan.false) (sym c.runs.ensures ∙ c.if-not-runs.false) (sym c.is_paused.ensures ∙ c.if-is_paused.false) (sym c.has_steps_left.ensures ∙ c.if-not-has_steps_left.true))

pub pause-requires-clause-accepted : goal.pause-requires-clause-accepted
pause-requires-clause-accepted g c = ap is_ok (turn_ok (setting_of c.args.self.now) c.args.self.now.entries c.args.h (is_below c.args.h c.plan.result.harts c.args.self.now.plan.harts (ap (λ (n : Numbers). n.harts) c.plan.ensures) c.if-h-plan.false) (sym c.runs.ensures ∙ c.if-not-runs.false) (sym c.is_paused.ensures ∙ c.if-is_paused.false) (sym c.has_steps_left.ensures ∙ c.if-not-has_steps_left.false))

pub pause-requires-clause-plain : goal.pause-requires-clause-plain
pause-requires-clause-plain g c = c.in-Some.ensures.some.is_plain

pub unreachable-requires : goal.unreachable-requires
unreachable-requires g c = differ (sym c.in-Some.ensures.some.is_armed ∙ c.in-None-pause.ensures.unarmed)

pub step-requires-clause-goes_on : goal.step-requires-clause-goes_on
step-requires-clause-goes_on g c = record {
  free = sym c.is_paused.ensures ∙ c.if-is_paused.false;
  left = sym c.has_steps_left.ensures ∙ c.if-not-has_steps_left.false;
  passes = c.in-None.ensures.none;
}

pub returns-in-Some-pause-clause-ok : goal.returns-in-Some-pause-clause-ok
returns-in-Some-pause-clause-ok g c = record { is_forced = c.in-Some-pause.ensures.forced; is_added = c.in-Some-pause.ensures.after }

pub returns-in-Some-step-clause-ok : goal.returns-in-Some-step-clause-ok
returns-in-Some-step-clause-ok g c = (record { is_forced = c.in-Some-step.ensures.forced; is_added = c.in-Some-step.ensures.after }, c.in-Some-step.ensures.event)

pub returns-in-None-step-clause-err : goal.returns-in-None-step-clause-err
returns-in-None-step-clause-err g c =
    let ok = turn_ok (setting_of c.args.self.now) c.args.self.now.entries c.args.h (is_below c.args.h c.plan.result.harts c.args.self.now.plan.harts (ap (λ (n : Numbers). n.harts) c.plan.ensures) c.if-h-plan.false) (sym c.runs.ensures ∙ c.if-not-runs.false) (sym c.is_paused.ensures ∙ c.if-is_paused.false) (sym c.has_steps_left.ensures ∙ c.if-not-has_steps_left.false) ∙ ap Ok c.in-None.ensures.none in
    inr (refl, c.in-None-step.ensures.memory ok, ok)
