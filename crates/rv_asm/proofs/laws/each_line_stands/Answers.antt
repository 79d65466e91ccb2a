use Rattle.rv_asm.proofs.StandingLemmas.{each_line_stands}
use Rattle.rv_asm.proofs.laws.each_line_stands.Goals as goal

pub returns : goal.returns
returns c = each_line_stands
