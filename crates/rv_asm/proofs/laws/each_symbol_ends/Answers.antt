use Rattle.rv_asm.proofs.SymbolLemmas.{each_symbol_ends}
use Rattle.rv_asm.proofs.laws.each_symbol_ends.Goals as goal

pub returns : goal.returns
returns c = each_symbol_ends
