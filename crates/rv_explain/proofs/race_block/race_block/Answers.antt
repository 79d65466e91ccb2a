use Rattle.rv_debug.specs.Placed.{setting}
use Rattle.rv_explain.proofs.race_block.race_block.Goals as goal

pub block_of-requires-clause-of_pause : goal.block_of-requires-clause-of_pause
block_of-requires-clause-of_pause c =
    c.endings_are_of_pauses.ensures (setting c.args.session.now) c.args.session.now.entries c.args.race.now.told.number c.args.race.now.told.ending c.facts.ensures.legal c.requires.told
