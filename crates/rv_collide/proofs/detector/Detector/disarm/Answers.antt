use Rattle.std.proofs.Common.{sym, ◌∙◌}
use Rattle.rv_collide.specs.Begun.{setting_of}
use Rattle.rv_collide.proofs.Calls.{disarm_ok, disarm_refused}
use Rattle.rv_collide.proofs.detector.Detector.disarm.Goals as goal

pub returns-then-not-is_armed-clause-err : goal.returns-then-not-is_armed-clause-err
returns-then-not-is_armed-clause-err g c = disarm_refused (setting_of c.args.self.now) c.args.self.now.entries c.args.pc (sym c.is_armed.ensures ∙ c.if-not-is_armed.true)

pub returns-clause-ok : goal.returns-clause-ok
returns-clause-ok g c = record {
  is_forced = disarm_ok (setting_of c.args.self.now) c.args.self.now.entries c.args.pc (sym c.is_armed.ensures ∙ c.if-not-is_armed.false);
  is_added = c.add_disarmed.ensures;
}
