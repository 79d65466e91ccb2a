use Rattle.rv_words.proofs.RunLemmas.{steps_are_the_run}
use Rattle.rv_words.proofs.laws.steps_are_the_run.Goals as goal

pub returns : goal.returns
returns c = steps_are_the_run
