use Rattle.std.proofs.Common.{sym, ◌∙◌, ◌%◌, ap, cond}
use Rattle.rv_collide.specs.Begun.{added, setting_of}
use Rattle.rv_collide.specs.declared.entry.Entry.TheVariants.{Armed}
use Rattle.rv_collide.proofs.Calls.{arm_spent, arm_misaligned, arm_again, arm_full, arm_ok, not_equal, equal}
use Rattle.rv_collide.proofs.detector.Detector.arm.Goals as goal

pub returns-then-not-has_arms_left-clause-err : goal.returns-then-not-has_arms_left-clause-err
returns-then-not-has_arms_left-clause-err g c = arm_spent (setting_of c.args.self.now) c.args.self.now.entries c.args.pc (sym c.has_arms_left.ensures ∙ c.if-not-has_arms_left.true)

pub returns-then-pc-ne0-clause-err : goal.returns-then-pc-ne0-clause-err
returns-then-pc-ne0-clause-err g c = arm_misaligned (setting_of c.args.self.now) c.args.self.now.entries c.args.pc (sym c.has_arms_left.ensures ∙ c.if-not-has_arms_left.false) (not_equal (c.args.pc % 4) c.if-pc-ne0.true)

pub returns-then-is_armed-clause-err : goal.returns-then-is_armed-clause-err
returns-then-is_armed-clause-err g c = arm_again (setting_of c.args.self.now) c.args.self.now.entries c.args.pc (sym c.has_arms_left.ensures ∙ c.if-not-has_arms_left.false) (equal (c.args.pc % 4) c.if-pc-ne0.false) (sym c.is_armed.ensures ∙ c.if-is_armed.true)

pub returns-then-not-add_armed-clause-err : goal.returns-then-not-add_armed-clause-err
returns-then-not-add_armed-clause-err g c = arm_full (setting_of c.args.self.now) c.args.self.now.entries c.args.pc (sym c.has_arms_left.ensures ∙ c.if-not-has_arms_left.false) (equal (c.args.pc % 4) c.if-pc-ne0.false) (sym c.is_armed.ensures ∙ c.if-is_armed.false) (sym c.add_armed.ensures.room ∙ c.if-not-add_armed.true)

pub returns-clause-ok : goal.returns-clause-ok
returns-clause-ok g c = record {
  is_forced = arm_ok (setting_of c.args.self.now) c.args.self.now.entries c.args.pc (sym c.has_arms_left.ensures ∙ c.if-not-has_arms_left.false) (equal (c.args.pc % 4) c.if-pc-ne0.false) (sym c.is_armed.ensures ∙ c.if-is_armed.false) (sym c.add_armed.ensures.room ∙ c.if-not-add_armed.false);
  is_added = c.add_armed.ensures.after ∙ ap (λ b. cond b (added c.args.self.now (Armed c.args.pc)) c.args.self.now) c.if-not-add_armed.false;
}
