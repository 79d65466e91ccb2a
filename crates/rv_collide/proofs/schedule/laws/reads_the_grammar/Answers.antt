use Rattle.rv_collide.proofs.GrammarProof.{reads_the_grammar}
use Rattle.rv_collide.proofs.schedule.laws.reads_the_grammar.Goals as goal

pub returns : goal.returns
returns c =
    reads_the_grammar c.decimal_is_read_back.ensures c.decimal_lacks_separators.ensures c.decimal_has_one_spelling.ensures c.word_is_read_back.ensures
    c.word_lacks_separators.ensures c.pieces_are_cut.ensures
