use Rattle.rv_tables.proofs.ReadBack as back
use Rattle.rv_tables.proofs.laws.tables_are_read_back.Goals as goal

pub returns : goal.returns
returns c =
    back.tables_are_read_back c.decimal_is_read_back.ensures c.decimal_lacks_separators.ensures c.word_is_read_back.ensures c.word_lacks_separators.ensures c.pieces_are_cut.ensures
