use Rattle.std.proofs.Common.{sym}
use Rattle.rv_tables.proofs.ReadLemmas.{said_is}
use Rattle.rv_tables.proofs.line.read_said.Goals as goal

pub returns : goal.returns
returns c =
    let all = said_is c.args.format c.of-words.result c.read_pair.new.words c.read_counts.new.words c.read_values.new.words c.in_ok-key.key c.in_ok-counts.counts c.in_ok-values.values c.in_ok-class.class
    (sym c.in_ok-key.ensures.value) c.in_ok-key.ensures.rest (sym c.in_ok-counts.ensures.value) c.in_ok-counts.ensures.rest (sym c.in_ok-values.ensures.value) c.in_ok-values.ensures.rest (sym c.in_ok-class.ensures) in
    sym (rw c.of-words.ensures at all)
