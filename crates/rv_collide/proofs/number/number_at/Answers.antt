use Rattle.std.proofs.Common.{sym, ◌∙◌}
use Rattle.rv_memory.specs.declared.store.Need.TheVariants.{Nothing}
use Rattle.rv_collide.proofs.Bytes.{load_at_once}
use Rattle.rv_collide.proofs.number.number_at.Goals as goal

pub returns-in-Some : goal.returns-in-Some
returns-in-Some g c =
    load_at_once c.args.machine.now.state.memory c.args.first c.args.size c.in-Some.number Nothing (sym c.in-Some.is ∙ c.number.ensures.value)
