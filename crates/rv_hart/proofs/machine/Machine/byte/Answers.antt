use Rattle.std.proofs.Common.{◌∙◌, Some, sym, ap}
use Rattle.rv_hart.specs.State.{Guest}
use Rattle.rv_memory.specs.Memory.{byte}
use Rattle.rv_hart.proofs.ByteLemmas.{byte_within, byte_outside}
use Rattle.rv_hart.proofs.machine.Machine.byte.Goals as goal

pub returns-then-permits : goal.returns-then-permits
returns-then-permits g c =
    ap Some c.load.ensures.value ∙ byte_within c.bytes_stand_where_covered.ensures (g.S.ByteStore.memory c.self.inside.store) c.args.address c.self.invariant.sound.full (sym c.permits.ensures ∙ c.if-permits.true) ∙ ap (λ (v : Guest). byte v.state.memory c.args.address) c.self.view_is

pub returns-else-permits : goal.returns-else-permits
returns-else-permits g c =
    byte_outside c.bytes_stand_where_covered.ensures (g.S.ByteStore.memory c.self.inside.store) c.args.address c.self.invariant.sound.full (sym c.permits.ensures ∙ c.if-permits.false) ∙ ap (λ (v : Guest). byte v.state.memory c.args.address) c.self.view_is
