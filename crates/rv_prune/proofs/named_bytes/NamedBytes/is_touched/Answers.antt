use Rattle.std.proofs.Common.{◌+◌, arith}
use Rattle.std.proofs.lemmas.Bool.{le-ltb}
use Rattle.rv_prune.proofs.Counted.{touched, untouched}
use Rattle.rv_prune.proofs.named_bytes.NamedBytes.is_touched.Goals as goal

pub returns-then-first-end : goal.returns-then-first-end
returns-then-first-end c =
    rw (c.ended.ensures, c.begun.ensures, c.from-first.ensures, c.from.ensures)
    (touched c.args.access.now c.args.self.now (omega (arith, c.if-first-end.true, c.from-first.ensures, c.from.ensures)))

pub returns-else-first-end : goal.returns-else-first-end
returns-else-first-end c =
    rw (le-ltb c.from-first.result (c.from-first.result + c.from.result) c.if-first-end.false)
    (untouched c.args.access.now c.args.self.now (omega (arith, c.if-first-end.false, c.from-first.ensures, c.from.ensures)))
