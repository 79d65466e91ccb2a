use Rattle.std.proofs.Common.{arith}
use Rattle.std.specs.List.{range_with_len}
use Rattle.rv_hart.specs.State.{with_stacks}
use Rattle.rv_hart.proofs.StartLemmas.{all_are_extents, none_first}
use Rattle.rv_hart.proofs.machine.Machine.new.Goals as goal

pub invariant_of-result : goal.invariant_of-result
invariant_of-result g c =
    let given = c.args.regions.now in
    let count = c.args.harts in
    record {
      some = omega (arith, c.in_ok-harts.ensures.count);
      within = omega (arith, c.in_ok-harts.ensures.count);
      sound = rw c.in_ok-store.ensures.memory (c.memory_is_sound.ensures.made (with_stacks given count) (all_are_extents given count c.requires.regions) c.in_ok-store.ensures.fits);
      printed = omega (arith, c.in_ok-output.ensures.len);
      room = omega (arith, c.in_ok-output.ensures.exact);
      held = λ _. rw c.in_ok-harts.ensures.harts (none_first c.args.entry c.args.harts (range_with_len 0 c.args.harts));
    }
