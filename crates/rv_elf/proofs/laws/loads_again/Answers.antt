use Rattle.rv_elf.proofs.LoadsAgain.{loads_again_lem}
use Rattle.rv_elf.proofs.laws.loads_again.Goals as goal

pub returns : goal.returns
returns c = loads_again_lem
