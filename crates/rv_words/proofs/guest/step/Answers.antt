use Rattle.rv_words.proofs.StepsLemmas.{answer_prints, answer_refused}
use Rattle.rv_words.proofs.guest.step.Goals as goal

pub returns-clause-printed : goal.returns-clause-printed
returns-clause-printed c =
    answer_prints c.what_no_step_does.ensures.output c.step.result c.args.machine.now.state c.args.h c.step.new.self.state c.step.ensures.step

pub returns-clause-refused : goal.returns-clause-refused
returns-clause-refused c =
    let law = c.what_no_step_does.ensures in
    let told = c.step.ensures in
    answer_refused law.no_hart law.idle c.step.result c.args.machine.now c.args.h told.no_hart told.not_running told.output_full told.no_memory c.requires.room
