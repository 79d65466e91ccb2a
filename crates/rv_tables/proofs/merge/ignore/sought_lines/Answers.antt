use Rattle.rv_tables.proofs.SoughtLemmas.{kept_lines, lines_more}
use Rattle.rv_tables.proofs.merge.ignore.sought_lines.Goals as goal

pub loop-line-preserved : goal.loop-line-preserved
loop-line-preserved c =
    let before = kept_lines c.loop-line.words c.sought.new.words c.in_ok-sought.ensures.kept _ _ c.loop-line.invariant.1 in (
      c.in_ok-sought.ensures.numbered,
      rw c.in_ok-push.ensures.items
          (lines_more c.sought.new.words c.args.lines.now c.loop-line.sought.items c.loop-line.line-index c.line-item.result c.in_ok-sought.field-0 c.loop-line-test.true c.line-item.is before c.in_ok-sought.ensures.is),
    )
