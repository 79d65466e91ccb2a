use Rattle.rv_hart.proofs.QuickLemmas.{moves_set}
use Rattle.rv_hart.proofs.quick.set.Goals as goal

pub returns-clause-tried : goal.returns-clause-tried
returns-clause-tried g c =
    moves_set (g.P.Stops.passes c.args._stops.now) (g.S.ByteStore.memory c.args._store.now) c.args.hart.now c.advance.new.hart c.in-Set.rd c.in-Set.value c.in-Set.next
    (rw c.in-Set.is at c.requires.begins) (rw c.in-Set.is at c.advance.ensures)
