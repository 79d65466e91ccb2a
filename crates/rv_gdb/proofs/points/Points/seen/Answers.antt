use Rattle.std.proofs.Common.{◌≡◌, ◌+◌, Some, None, sym, arith}
use Rattle.rv_gdb.specs.Points as spec
use Rattle.rv_gdb.proofs.SearchLemmas.{first_found, first_none, first_passed}
use Rattle.rv_gdb.proofs.points.Points.seen.Goals as goal

pub returns-in-Some : goal.returns-in-Some
unfolding spec.seen
returns-in-Some c =
    let a = c.args.access.now in
    let here : spec.seen_at c.args.self.now a (a.first + c.loop-i.i) ≡ Some c.in-Some.sight = cc in
    sym (first_found (spec.seen_at c.args.self.now a) a.first (spec.byte_count a) c.loop-i.i _ c.in-Some.sight (omega arith) c.loop-i.invariant here)

pub loop-i-preserved : goal.loop-i-preserved
loop-i-preserved c =
    let a = c.args.access.now in
    let here : spec.seen_at c.args.self.now a (a.first + c.loop-i.i) ≡ None = cc in
    first_passed (spec.seen_at c.args.self.now a) a.first (spec.byte_count a) c.loop-i.i _ (omega arith) c.loop-i.invariant here

pub returns : goal.returns
unfolding spec.seen
returns c =
    let a = c.args.access.now in
    sym (first_none (spec.seen_at c.args.self.now a) a.first (spec.byte_count a) c.loop-i.i _ (omega arith) c.loop-i.invariant)
