use Rattle.rv_tables.proofs.Written.{row_written}
use Rattle.rv_tables.proofs.texts.write_row.Goals as goal

pub returns-clause-ok : goal.returns-clause-ok
returns-clause-ok g c =
    row_written c.args.key.now c.args.row.now c.write_class.result _ _ _ _ _ _ c.in_ok-write_key.ensures.ok c.in_ok-write_count.ensures.ok c.in_ok-write_verdict.ensures.ok c.in_ok-write_values.ensures.ok
    c.write_class.ensures.ok
