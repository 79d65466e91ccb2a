use Rattle.std.proofs.Common.{◌<◌, length, refl, arith}
use Rattle.rv_collide.specs.Entries.{steps}
use Rattle.rv_collide.specs.StateAt.{state_at}
use Rattle.rv_collide.specs.declared.entry.Entry.TheVariants.{Stepped}
use Rattle.rv_explain.proofs.StuckLemmas.{state_next}
use Rattle.rv_explain.proofs.stuck.after.make_steps.Goals as goal

pub loop-place-init : goal.loop-place-init
unfolding state_at steps
loop-place-init c = refl

pub loop-place-preserved : goal.loop-place-preserved
loop-place-preserved c =
    let below : c.loop-place.place < length c.args.entries.now = omega arith in
    state_next c.args.machine.now.state c.loop-place.machine.state c.make_step.new.machine.state c.args.entries.now c.loop-place.place (Stepped 0) below c.loop-place.invariant (c.in_ok-make_step.ensures c.if-not-branch.false)
