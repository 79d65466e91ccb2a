use Rattle.std.proofs.Common.{◌≡◌, ◌%◌, true, sym, arith}
use Rattle.std.specs.Prelude.{◌==◌}
use Rattle.rv_hart.proofs.QuickLemmas.{moves_reserve}
use Rattle.rv_hart.proofs.quick.reserved.Goals as goal

pub returns-clause-tried : goal.returns-clause-tried
returns-clause-tried g c =
    let aligned : (c.in-Reserve.address % 4 == 0) ≡ true = grind arith in
    let passes : c.lets_by.result ≡ true = grind arith in
    moves_reserve (g.P.Stops.passes c.args.stops.now) (g.S.ByteStore.memory c.args.store.now) c.args.hart.now c.advance.new.hart c.in-Reserve.rd c.in-Reserve.address c.in-Some.loaded c.note.new.noted.access
    (rw c.in-Reserve.is at c.requires.begins) aligned (sym c.in-Some.ensures.value) (c.lets_by.ensures passes) c.note.ensures.access c.advance.ensures
