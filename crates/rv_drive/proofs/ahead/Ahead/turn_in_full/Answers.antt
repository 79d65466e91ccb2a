use Rattle.rv_drive.proofs.TurnsLemmas.{turn_of}
use Rattle.rv_drive.proofs.ahead.Ahead.turn_in_full.Goals as goal

pub returns-clause-turns : goal.returns-clause-turns
returns-clause-turns c = turn_of c.args.self.now.collider c.turn-turned.new.self.collider c.args.h c.turn-turned.result c.turn-turned.ensures.turns
