use Rattle.rv_words.proofs.ReadBack.{read_back}
use Rattle.rv_words.proofs.laws.input_is_read_back.Goals as goal

pub returns : goal.returns
returns c =
    read_back c.decimal_is_read_back.ensures c.decimal_lacks_separators.ensures c.word_is_read_back.ensures c.word_lacks_separators.ensures
    c.lines_are_read_back.ensures c.pieces_are_cut.ensures
