use Rattle.std.proofs.Common.{◌≡◌, ℕ, ◌-◌, ◌<◌, List, length, None, Some, refl, sym, ap, subst, ◌∙◌, arith}
use Rattle.std.specs.Prelude.{slice_get}
use Rattle.std.proofs.lemmas.Option.{slice_get_read}
use Rattle.rv_collide.specs.Verdict.{endings}
use Rattle.rv_collide.specs.declared.ending.Ending.{Ending}
use Rattle.rv_collide.specs.Plan.{Numbers}
use Rattle.rv_collide.specs.Begun.{Begun, setting_of}
use Rattle.rv_collide.proofs.Calls.{resume_no_hart, resume_not_paused, resume_ok, not_below, is_below}
use Rattle.rv_collide.proofs.Taken.{is_open}
use Rattle.rv_collide.proofs.detector.Detector.resume.Goals as goal

pub returns-then-h-plan-clause-err : goal.returns-then-h-plan-clause-err
returns-then-h-plan-clause-err g c = resume_no_hart (setting_of c.args.self.now) c.args.self.now.entries c.args.h (not_below c.args.h c.plan.result.harts c.args.self.now.plan.harts (ap (λ (n : Numbers). n.harts) c.plan.ensures) c.if-h-plan.true)

pub end-requires-clause-forced : goal.end-requires-clause-forced
end-requires-clause-forced g c = resume_ok (setting_of c.args.self.now) c.args.self.now.entries c.args.h (is_below c.args.h c.plan.result.harts c.args.self.now.plan.harts (ap (λ (n : Numbers). n.harts) c.plan.ensures) c.if-h-plan.false) (is_open c.args.self.now.entries c.args.h c.opening_place.result (Some c.in-Some.place) c.opening_place.ensures c.in-Some.is)

pub end-requires-clause-placed : goal.end-requires-clause-placed
end-requires-clause-placed g c = sym c.opening_place.ensures ∙ c.in-Some.is

pub returns-in-None-clause-err : goal.returns-in-None-clause-err
returns-in-None-clause-err g c = resume_not_paused (setting_of c.args.self.now) c.args.self.now.entries c.args.h (is_below c.args.h c.plan.result.harts c.args.self.now.plan.harts (ap (λ (n : Numbers). n.harts) c.plan.ensures) c.if-h-plan.false) (is_open c.args.self.now.entries c.args.h c.opening_place.result None c.opening_place.ensures c.in-None.is)

pub returns-in-Some-clause-ok : goal.returns-in-Some-clause-ok
returns-in-Some-clause-ok g c =
    let told = c.end.ensures.told in
    let items = c.self.inside.endings.items in
    let are : items ≡ endings (setting_of c.end.new.self).start c.end.new.self.entries = c.self.invariant.0.endings_are ∙ ap (λ (u : Begun). endings (setting_of u).start u.entries) c.self.view_is in
    let size : c.len-last.result ≡ length items = c.len-last.ensures ∙ c.self.inside.endings.ok.0 in
    let some : 0 < length items = subst (λ (es : List Ending). 0 < length es) (sym are) told.some in
    record {
      adds = record {
        is_forced = resume_ok (setting_of c.args.self.now) c.args.self.now.entries c.args.h (is_below c.args.h c.plan.result.harts c.args.self.now.plan.harts (ap (λ (n : Numbers). n.harts) c.plan.ensures) c.if-h-plan.false) (is_open c.args.self.now.entries c.args.h c.opening_place.result (Some c.in-Some.place) c.opening_place.ensures c.in-Some.is);
        is_added = c.end.ensures.after;
      };
      ending = told.last
          ∙ ap (λ (es : List Ending). slice_get es (length es - 1)) (sym are)
          ∙ ap (λ (n : ℕ). slice_get items (n - 1)) (sym size)
          ∙ slice_get_read items (length items) (c.len-last.result - 1) c.index.result.now refl (omega (arith, size, some)) c.index.ensures;
    }
