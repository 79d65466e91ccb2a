use Rattle.std.proofs.Common.{arith}
use Rattle.rv_debug.proofs.LineLemmas.{kept_more, kept_full}
use Rattle.rv_debug.proofs.lines.Line.push.Goals as goal

pub returns-then-self-lt-KEPT : goal.returns-then-self-lt-KEPT
returns-then-self-lt-KEPT c =
    let line = c.self.inside in
    rw (← c.self.view_is) (kept_more line.bytes line.len c.args.byte (omega arith) (omega arith))

pub returns-else-self-lt-KEPT : goal.returns-else-self-lt-KEPT
returns-else-self-lt-KEPT c =
    let line = c.self.inside in
    rw (← c.self.view_is) (kept_full line.bytes line.len c.args.byte (omega arith) (omega arith) (omega arith))
