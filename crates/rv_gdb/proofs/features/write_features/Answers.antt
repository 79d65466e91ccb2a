use Rattle.rv_gdb.proofs.TextLemmas.{features_joined}
use Rattle.rv_gdb.proofs.features.write_features.Goals as goal

pub returns-clause-ok : goal.returns-clause-ok
returns-clause-ok g c = features_joined _ _ _ _ _ _ c.head.ensures c.tail.ensures c.in_ok-put.ensures.ok c.in_ok-write_registers.ensures.ok c.in_ok-put-2.ensures.ok
