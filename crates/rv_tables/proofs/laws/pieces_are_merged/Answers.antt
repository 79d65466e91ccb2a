use Rattle.rv_tables.proofs.MergeLemmas.{pieces_merged, table_kept, two_merged}
use Rattle.rv_tables.proofs.laws.pieces_are_merged.Goals as goal

pub returns-clause-all : goal.returns-clause-all
returns-clause-all c = pieces_merged

pub returns-clause-two : goal.returns-clause-two
returns-clause-two c = two_merged

pub returns-clause-one : goal.returns-clause-one
returns-clause-one c = table_kept
