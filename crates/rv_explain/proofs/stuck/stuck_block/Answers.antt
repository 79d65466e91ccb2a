use Rattle.rv_hart.specs.State.{start as first_state}
use Rattle.rv_explain.proofs.StuckLemmas.{shown_end}
use Rattle.rv_explain.proofs.stuck.stuck_block.Goals as goal

pub returns-clause-stuck : goal.returns-clause-stuck
returns-clause-stuck c =
    shown_end c.args.symbols.now.image (first_state c.args.symbols.now.image.segments c.args.symbols.now.image.entry c.args.harts) c.in-Some.machine.state c.args.entries.now c.in_ok-block_of.field-0 c.in-Some-2.end
    (rw (c.in-Some.is, c.image-image.ensures) at c.in_ok-machine.ensures.at)
    (rw c.in-Some-2.is at c.in_ok-end.ensures.stuck)
    (rw c.stuck_end.ensures.same at c.in_ok-block_of.ensures.harts) (rw c.stuck_end.ensures.same at c.in_ok-block_of.ensures.called)
