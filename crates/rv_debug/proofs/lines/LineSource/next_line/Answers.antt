use Rattle.std.proofs.Common.{◌≡◌, ◌==◌, false, arith}
use Rattle.std.proofs.lemmas.Bool.Decides.{nat_tests}
use Rattle.rv_debug.proofs.LineLemmas.{LineSoFar-more, line_ends}
use Rattle.rv_debug.proofs.lines.LineSource.next_line.Goals as goal

pub returns-then-byte-eq10-clause-line : goal.returns-then-byte-eq10-clause-line
returns-then-byte-eq10-clause-line g c =
    let took = rw c.in-Some.is at c.in_ok-byte.ensures.byte in
    line_ends _ _ _ _ _ _ _ _ c.bytes.invariant.so_far (rw c.if-byte-eq10.true at took) (rw c.in-Some.is at c.in_ok-byte.ensures.left)

pub bytes-preserved : goal.bytes-preserved
bytes-preserved g c =
    let other : (c.in-Some.byte == 10) ≡ false = grind (arith, nat_tests) in
    record {
      so_far = LineSoFar-more _ _ _ _ _ _ _ _ _ _ c.bytes.invariant.so_far (rw c.in-Some.is at c.in_ok-byte.ensures.byte) (rw c.in-Some.is at c.in_ok-byte.ensures.left) (rw c.in-Some.is at c.in_ok-byte.ensures.not_over) other c.push.ensures;
      failed = grind (arith, nat_tests);
    }
