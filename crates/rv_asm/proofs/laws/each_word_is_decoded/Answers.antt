use Rattle.std.proofs.Common.{refl}
use Rattle.rv_isa.specs.Encoded.{encoded}
use Rattle.rv_asm.proofs.laws.each_word_is_decoded.Goals as goal

pub returns : goal.returns
returns c = λ i.
    let word = (c.functions_of_the_table.ensures.2 (encoded i) i).0 refl in
    (c.functions_of_the_table.ensures.1 (encoded i) i).1 word.1
