use Rattle.std.proofs.Common.{◌∙◌, sym, ap}
use Rattle.rv_hart.specs.internal.HartAccess.{hart_plain}
use Rattle.rv_hart.specs.State.{Guest}
use Rattle.rv_hart.proofs.NextLemmas.{next_plain_is}
use Rattle.rv_hart.proofs.machine.Machine.next_plain.Goals as goal

pub returns : goal.returns
returns g c =
    c.hart_plain.ensures ∙ ap (λ (v : Guest). hart_plain v.state.memory c.hart.result.now) c.self.view_is ∙ sym (next_plain_is c.args.self.now.state c.args.h c.hart.result.now c.hart.ensures)
