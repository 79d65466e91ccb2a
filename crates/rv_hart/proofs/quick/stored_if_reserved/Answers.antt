use Rattle.std.proofs.Common.{◌≡◌, ◌%◌, true, sym, subst, ◌∙◌, arith}
use Rattle.std.specs.Prelude.{◌==◌}
use Rattle.rv_hart.proofs.QuickLemmas.{moves_conditional}
use Rattle.rv_memory.specs.Sound.{IsSound}
use Rattle.rv_hart.proofs.quick.stored_if_reserved.Goals as goal

pub returns-clause-tried : goal.returns-clause-tried
returns-clause-tried g c =
    let before = g.S.ByteStore.memory c.args.store.now in
    let stored : c.store_permitted.result ≡ true = grind arith in
    let aligned : (c.in-Conditional.address % 4 == 0) ≡ true = grind arith in
    let reserved : c.reserves.result ≡ true = grind arith in
    let after = c.store_permitted.ensures.stored stored in
    let passes : c.lets_by.result ≡ true = grind arith in
    moves_conditional (g.P.Stops.passes c.args.stops.now) before (g.S.ByteStore.memory c.store_permitted.new.self) c.args.hart.now c.advance-2.new.hart c.in-Conditional.rd c.in-Conditional.address c.in-Conditional.value c.note.new.noted.access
    (rw c.in-Conditional.is at c.requires.begins) aligned (c.store_permitted.ensures.permitted stored) (sym c.reserves.ensures ∙ reserved) (c.lets_by.ensures passes) c.note.ensures.access c.advance-2.ensures after
    (λ sound. subst IsSound (sym after) (c.memory_is_sound.ensures.stored before c.in-Conditional.address 4 c.in-Conditional.value sound))
