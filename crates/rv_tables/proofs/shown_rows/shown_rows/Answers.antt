use Rattle.std.proofs.Common.{◌∙◌, ◌++◌, ap, option_to_list}
use Rattle.rv_tables.proofs.ChangedLemmas.{listed_next}
use Rattle.rv_tables.specs.ShownRows.{shown_row}
use Rattle.rv_tables.proofs.shown_rows.shown_rows.Goals as goal

pub loop-row-preserved : goal.loop-row-preserved
loop-row-preserved c =
    let next = c.in_ok-push_if.ensures ∙ ap (λ o. c.loop-row.shown.items ++ option_to_list o) (rw c.deref.ensures.value at c.in_ok-one.ensures) in
    listed_next (shown_row c.in_ok-placed.placed.items) c.args.told.now c.loop-row.row-index _ c.loop-row.shown.items c.push_if.new.rows.items c.loop-row-test.true c.loop-row.invariant next
