use Rattle.std.proofs.Common.{◌≡◌, ◌%◌, true, sym, subst, arith}
use Rattle.std.specs.Prelude.{◌==◌}
use Rattle.rv_hart.proofs.QuickLemmas.{moves_store, plain_store}
use Rattle.rv_memory.specs.Sound.{IsSound}
use Rattle.rv_hart.proofs.quick.stored.Goals as goal

pub returns-clause-tried : goal.returns-clause-tried
returns-clause-tried g c =
    let before = g.S.ByteStore.memory c.args.store.now in
    let stored : c.store_permitted.result ≡ true = grind arith in
    let aligned : (c.in-Store.address % c.in-Store.size == 0) ≡ true = grind arith in
    let after = c.store_permitted.ensures.stored stored in
    let passes : c.lets_by.result ≡ true = grind arith in
    moves_store (g.P.Stops.passes c.args.stops.now) before (g.S.ByteStore.memory c.store_permitted.new.self) c.args.hart.now c.advance.new.hart c.in-Store.address c.in-Store.size c.in-Store.value c.note.new.noted.access
    (rw c.in-Store.is at c.requires.begins) aligned (c.store_permitted.ensures.permitted stored) (c.lets_by.ensures passes) c.note.ensures.access c.advance.ensures after
    (λ sound. subst IsSound (sym after) (c.memory_is_sound.ensures.stored before c.in-Store.address c.in-Store.size c.in-Store.value sound))

pub keep_back-requires : goal.keep_back-requires
keep_back-requires g c =
    let aligned : (c.in-Store.address % c.in-Store.size == 0) ≡ true = grind arith in
    plain_store (g.S.ByteStore.memory c.args.store.now) c.args.hart.now c.in-Store.address c.in-Store.size c.in-Store.value (rw c.in-Store.is at c.requires.begins) aligned
