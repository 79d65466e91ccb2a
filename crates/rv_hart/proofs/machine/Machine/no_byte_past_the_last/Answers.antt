use Rattle.std.proofs.Common.{◌∙◌, sym, ap}
use Rattle.rv_hart.specs.State.{Guest}
use Rattle.rv_memory.specs.Memory.{byte}
use Rattle.rv_hart.proofs.ByteLemmas.{none_past}
use Rattle.rv_hart.proofs.machine.Machine.no_byte_past_the_last.Goals as goal

pub returns : goal.returns
returns g c = λ address past.
    ap (λ (v : Guest). byte v.state.memory address) (sym c.self.view_is)
    ∙ none_past (g.S.ByteStore.memory c.self.inside.store) address c.self.invariant.sound.no_fault past
