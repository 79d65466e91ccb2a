use Rattle.rv_hart.proofs.QuickLemmas.{begins, sized_begun}
use Rattle.rv_hart.proofs.quick.begun.Goals as goal

pub returns-clause-begins : goal.returns-clause-begins
returns-clause-begins g c =
    begins (g.S.ByteStore.memory c.args._store.now) c.args.word c.args.hart.now c.in-Some.instr c.act.result c.requires.fetches c.in-Some.ensures.value c.act.ensures

pub returns-clause-sized : goal.returns-clause-sized
returns-clause-sized g c =
    let m = g.S.ByteStore.memory c.args._store.now in
    sized_begun m c.args.hart.now c.act.result (begins m c.args.word c.args.hart.now c.in-Some.instr c.act.result c.requires.fetches c.in-Some.ensures.value c.act.ensures)
