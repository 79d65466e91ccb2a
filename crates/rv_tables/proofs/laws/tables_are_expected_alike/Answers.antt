use Rattle.rv_tables.proofs.KnownLemmas.{expected_alike}
use Rattle.rv_tables.proofs.laws.tables_are_expected_alike.Goals as goal

pub returns : goal.returns
returns c = expected_alike
