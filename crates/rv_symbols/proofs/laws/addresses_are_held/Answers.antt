use Rattle.rv_symbols.proofs.NameLemmas as names
use Rattle.rv_symbols.proofs.laws.addresses_are_held.Goals as goal

pub returns : goal.returns
returns c = names.addresses_are_held
