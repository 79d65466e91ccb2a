use Rattle.rv_tables.proofs.WordLemmas.{named_more}
use Rattle.rv_tables.proofs.merge.words.named_symbols.Goals as goal

pub loop-symbol-preserved : goal.loop-symbol-preserved
loop-symbol-preserved c =
    let symbols = c.symbols-symbol-items.ensures.value in
    let so_far = rw (← symbols) at c.loop-symbol.invariant in
    rw (← symbols)
    (named_more c.args.words.now c.symbols-symbol-items.result.now c.loop-symbol.symbol-index c.symbol-item.result c.in_ok-word.word c.loop-symbol.named.items c.add_named.new.named.items
    c.loop-symbol-test.true c.symbol-item.is c.in_ok-word.ensures so_far c.in_ok-add_named.ensures)
