use Rattle.std.proofs.Common.{◌≡◌, ◌%◌, true, sym, subst, arith}
use Rattle.std.specs.Prelude.{◌==◌}
use Rattle.rv_hart.proofs.QuickLemmas.{moves_replace}
use Rattle.rv_memory.specs.Sound.{IsSound}
use Rattle.rv_hart.proofs.quick.replaced.Goals as goal

pub returns-clause-tried : goal.returns-clause-tried
returns-clause-tried g c =
    let before = g.S.ByteStore.memory c.args.store.now in
    let kept : c.store_permitted.result ≡ true = grind arith in
    let aligned : (c.in-Replace.address % 4 == 0) ≡ true = grind arith in
    let after = c.store_permitted.ensures.stored kept in
    let passes : c.lets_by.result ≡ true = grind arith in
    moves_replace (g.P.Stops.passes c.args.stops.now) before (g.S.ByteStore.memory c.store_permitted.new.self) c.args.hart.now c.advance.new.hart c.in-Replace.rd c.in-Replace.address c.in-Replace.value c.in-Some.loaded c.combined-stored.result c.in-Replace.combine c.note.new.noted.access
    (rw c.in-Replace.is at c.requires.begins) aligned (sym c.in-Some.ensures.value) c.combined-stored.ensures (c.lets_by.ensures passes) c.note.ensures.access c.advance.ensures after
    (λ sound. subst IsSound (sym after) (c.memory_is_sound.ensures.stored before c.in-Replace.address 4 c.combined-stored.result sound))
