use Rattle.rv_tables.proofs.ReadLemmas.{read_all}
use Rattle.rv_tables.proofs.reading.read_table.Goals as goal

pub returns-clause-ok : goal.returns-clause-ok
returns-clause-ok c = rw c.and.ensures (read_all c.read_into.result c.read_into.new.rows _ c.read_into.ensures.ok)
