use Rattle.rv_search.proofs.RemadeLemmas.{rows_told}
use Rattle.rv_search.proofs.ResultLemmas.{one_result, pieces_are_whole}
use Rattle.rv_search.proofs.laws.hunts_have_one_result.Goals as goal

pub returns-clause-one : goal.returns-clause-one
returns-clause-one c = one_result c.seeded_runs.ensures.one

pub returns-clause-pieces : goal.returns-clause-pieces
returns-clause-pieces c = pieces_are_whole c.pieces_are_merged.ensures.two

pub returns-clause-told : goal.returns-clause-told
returns-clause-told c = rows_told
