use Rattle.rv_explain.proofs.BlockLemmas.{block_is}
use Rattle.rv_races.specs.Races.{run_of}
use Rattle.rv_explain.proofs.race_block.block_of.Goals as goal

pub second_of-other-requires-clause-hit : goal.second_of-other-requires-clause-hit
second_of-other-requires-clause-hit c seen is = (c.requires.of_pause.hit seen is).before

pub returns-clause-block : goal.returns-clause-block
returns-clause-block c =
    block_is (run_of c.args.session.now) c.args.around c.args.race.now c.second_of-other.result c.in_ok-walked.walked.last c.in_ok-paused.paused c.in_ok-second.second c.in_ok-lines.lines.items
    (rw c.side_at.ensures.same at c.in_ok-walked.ensures.last) c.second_of-other.ensures.value
    (rw c.own_access.ensures at c.in_ok-paused.ensures.side)
    (rw (c.walk.ensures.same, c.side_at.ensures.same) at c.in_ok-second.ensures.side)
    (rw (c.side_at-2.ensures.same, c.walk.ensures.same, c.side_at.ensures.same) at c.in_ok-lines.ensures.lines)
