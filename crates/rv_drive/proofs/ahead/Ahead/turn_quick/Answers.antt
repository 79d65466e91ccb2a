use Rattle.std.proofs.Common.{arith}
use Rattle.rv_drive.proofs.TurnsLemmas.{stays_ahead, untried}
use Rattle.rv_drive.proofs.ahead.Ahead.turn_quick.Goals as goal

pub returns-clause-steps : goal.returns-clause-steps
returns-clause-steps g c = λ _.
    stays_ahead c.open_pauses.ensures c.what_no_step_does.ensures.other_harts c.args.self.now c.turn_quick.new.self c.args.h c.requires.driver c.requires.able (c.turn_quick.ensures.steps c.if-not-turn_quick.false) (c.requires.left (omega (arith, c.if-left-eq0.false)))

pub returns-then-left-eq0-clause-other : goal.returns-then-left-eq0-clause-other
returns-then-left-eq0-clause-other g c = untried c.args.self.now c.args.h c.requires.able

pub returns-in_default-clause-other : goal.returns-in_default-clause-other
returns-in_default-clause-other g c = untried c.args.self.now c.args.h c.requires.able
