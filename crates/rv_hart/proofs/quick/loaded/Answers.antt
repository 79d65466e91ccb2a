use Rattle.std.proofs.Common.{◌≡◌, ◌%◌, true, sym, arith}
use Rattle.std.specs.Prelude.{◌==◌}
use Rattle.rv_hart.proofs.QuickLemmas.{moves_load, plain_load}
use Rattle.rv_hart.proofs.quick.loaded.Goals as goal

pub returns-clause-tried : goal.returns-clause-tried
returns-clause-tried g c =
    let aligned : (c.in-Load.address % c.in-Load.size == 0) ≡ true = grind arith in
    let passes : c.lets_by.result ≡ true = grind arith in
    moves_load (g.P.Stops.passes c.args.stops.now) (g.S.ByteStore.memory c.args.store.now) c.args.hart.now c.advance.new.hart c.in-Load.rd c.in-Load.address c.in-Load.size c.in-Some.loaded c.in-Load.signed c.note.new.noted.access
    (rw c.in-Load.is at c.requires.begins) aligned (sym c.in-Some.ensures.value) (c.lets_by.ensures passes) c.note.ensures.access c.advance.ensures

pub keep_back-requires : goal.keep_back-requires
keep_back-requires g c =
    let aligned : (c.in-Load.address % c.in-Load.size == 0) ≡ true = grind arith in
    plain_load (g.S.ByteStore.memory c.args.store.now) c.args.hart.now c.in-Load.rd c.in-Load.address c.in-Load.size c.in-Load.signed (rw c.in-Load.is at c.requires.begins) aligned
