use Rattle.rv_collide.proofs.GrammarProof.{text_has_one, schedule_has_one, schedule_has_some}
use Rattle.rv_collide.proofs.schedule.laws.one_spelling.Goals as goal

pub returns-clause-text : goal.returns-clause-text
returns-clause-text c = text_has_one c.reads_the_grammar.ensures

pub returns-clause-schedule : goal.returns-clause-schedule
returns-clause-schedule c = schedule_has_one

pub returns-clause-some : goal.returns-clause-some
returns-clause-some c = schedule_has_some
