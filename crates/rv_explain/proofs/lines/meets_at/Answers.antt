use Rattle.std.proofs.Common.{◌∙◌}
use Rattle.rv_explain.proofs.BlockLemmas.{meets_there}
use Rattle.rv_races.specs.Races.{run_of}
use Rattle.rv_explain.proofs.lines.meets_at.Goals as goal

pub returns : goal.returns
returns c = c.meets.ensures ∙ meets_there (run_of c.args._session.now) c.args.about.now.told c.args.about.now.meets.items c.args.at c.requires
