use Rattle.rv_asm.proofs.WalkLemmas.{walks-none}
use Rattle.rv_asm.proofs.passes.symbols.first_walks.Goals as goal

pub returns : goal.returns
returns c = walks-none c.args.text_end c.args.data_end
