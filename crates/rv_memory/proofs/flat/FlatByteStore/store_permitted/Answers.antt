use Rattle.std.proofs.Common.{sym}
use Rattle.rv_memory.proofs.CodeLemmas.{same_code}
use Rattle.rv_memory.proofs.LookFrom.{same_index}
use Rattle.rv_memory.proofs.Sound.{sound_set, spans_set}
use Rattle.rv_memory.proofs.flat.FlatByteStore.store_permitted.Goals as goal

-- one region has other bytes, as many
pub invariant_of-self : goal.invariant_of-self
invariant_of-self c =
    let regions = c.self.inside.regions.items in
    let place = c.in-Some.place in
    let old = c.index_mut.result.now in
    let new = c.put.new.region in
    let below = rw c.deref-2.ensures.value at c.in-Some.ensures.within in
    let spans = sym (spans_set regions place old new below c.index_mut.ensures.value c.put.ensures.span) in (
      record {
        sound = sound_set regions place old new c.self.invariant.0.sound below c.index_mut.ensures.value c.put.ensures.span c.put.ensures.length;
        index = same_index _ _ _ spans c.self.invariant.0.index;
      },
      same_code _ _ _ spans c.self.invariant.1,
    )
