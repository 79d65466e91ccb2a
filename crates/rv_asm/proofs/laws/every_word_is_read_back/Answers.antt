use Rattle.rv_asm.proofs.EveryWord.{every_word}
use Rattle.rv_asm.proofs.laws.every_word_is_read_back.Goals as goal

pub returns : goal.returns
returns c = every_word c.word_is_read_back.ensures c.functions_of_the_table.ensures c.ranges_by_field.ensures
