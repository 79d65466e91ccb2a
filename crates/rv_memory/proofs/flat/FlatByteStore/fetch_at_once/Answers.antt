use Rattle.std.proofs.Common.{◌≡◌}
use Rattle.rv_memory.specs.internal.Flat.{number_at}
use Rattle.rv_memory.proofs.CodeLemmas.{fetched}
use Rattle.rv_memory.proofs.flat.FlatByteStore.fetch_at_once.Goals as goal

pub returns : goal.returns
returns c =
    let region = c.index.result.now in
    let at = c.in_ok-offset.ensures in
    let read : c.number_at.result ≡ number_at region.bytes c.in_ok-offset.offset 4 = rw (← c.behind-self.view_is) (rw c.deref.ensures.value at c.number_at.ensures.value) in
    rw (← c.self.view_is) (fetched c.self.inside.regions.items c.self.inside.code region c.args.address c.in_ok-offset.offset c.number_at.result c.self.invariant.0.sound c.self.invariant.1 at.0 at.1 c.index.ensures read)
