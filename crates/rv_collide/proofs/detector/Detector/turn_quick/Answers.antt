use Rattle.rv_collide.specs.Begun.{setting_of}
use Rattle.rv_collide.proofs.QuickTurns.{may_turn}
use Rattle.rv_collide.proofs.RowLemmas.{free_turn, still_free}
use Rattle.rv_collide.proofs.detector.Detector.turn_quick.Goals as goal

pub step_on-requires-clause-goes_on : goal.step_on-requires-clause-goes_on
step_on-requires-clause-goes_on g c = λ off.
    let may = may_turn (setting_of c.args.self.now) c.args.self.now.entries c.args.h c.requires.accepted in
    free_turn c.args.self.now c.args.h may.free may.left (c.requires.free off)

pub returns-clause-free : goal.returns-clause-free
returns-clause-free g c = λ made.
    still_free c.args.self.now c.step_on.new.self c.args.h (c.step_on.ensures.steps made)
