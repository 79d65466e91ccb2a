use Rattle.std.proofs.Common.{◌+◌, ◌*◌, ◌≤◌, take, length, ap, ◌∙◌, arith}
use Rattle.rv_collide.specs.Stored.{Stored, stored}
use Rattle.rv_debug.specs.declared.checkpoints.TheConstants.{CHECKPOINT_ENTRIES}
use Rattle.rv_debug.proofs.CheckpointLemmas.{one_checkpoint_more, take_until, told_here}
use Rattle.rv_debug.proofs.checkpoints.add_checkpoints.Goals as goal

pub replay_up_to-requires-clause-here : goal.replay_up_to-requires-clause-here
replay_up_to-requires-clause-here c =
    let image = c.args.collider.now.image in
    let plan = c.args.collider.now.plan in
    let within : CHECKPOINT_ENTRIES * c.loop-c.c ≤ length c.args.entries.now = omega arith in
    told_here image plan c.args.entries.now (CHECKPOINT_ENTRIES * c.loop-c.c) c.add_checkpoint.new.collider (c.add_checkpoint.ensures.same ∙ c.loop-c.invariant.core) within

pub loop-c-preserved : goal.loop-c-preserved
loop-c-preserved c =
    let image = c.args.collider.now.image in
    let plan = c.args.collider.now.plan in
    let xs = c.args.entries.now in
    let is = c.add_checkpoint.ensures.same ∙ c.loop-c.invariant.core in
    record {
      core =
          c.in_ok-replay_up_to.ensures.ok
          ∙ ap (λ (s : Stored). stored s.image s.plan (take c.next_checkpoint.result xs)) is
          ∙ ap (stored image plan) (take_until image plan xs c.next_checkpoint.result (CHECKPOINT_ENTRIES * (c.loop-c.c + 1)) c.next_checkpoint.ensures.next);
      held = one_checkpoint_more image plan xs c.loop-c.c c.loop-c.collider c.loop-c.checkpoints.items c.add_checkpoint.new.checkpoints.items c.loop-c.invariant.core c.loop-c.invariant.held c.in-Ok.ensures.added;
    }
