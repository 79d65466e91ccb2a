use Rattle.std.proofs.Common.{None}
use Rattle.std.specs.Prelude.{option_map}
use Rattle.rv_break.specs.Slots.{claim_after}
use Rattle.rv_break.proofs.Shown.{mapped_step}
use Rattle.rv_break.proofs.slots.show.Goals as goal

pub loop-held-preserved : goal.loop-held-preserved
loop-held-preserved c =
    mapped_step (option_map (claim_after c.args.seen)) c.args.claims.now c.loop-held.claims c.loop-held.held-index None c.show_one.new.held c.loop-held.invariant c.show_one.ensures c.loop-held-test.true
