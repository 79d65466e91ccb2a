use Rattle.rv_hart.proofs.LawLemmas.{other_harts_stay, other_bytes_stay}
use Rattle.rv_hart.proofs.OutputLemmas.{output_grows, no_hart_step, idle_step}
use Rattle.rv_hart.proofs.RunsOnLemmas.{moves_run_on}
use Rattle.rv_hart.proofs.laws.what_no_step_does.Goals as goal

pub returns-clause-other_harts : goal.returns-clause-other_harts
returns-clause-other_harts c = other_harts_stay

pub returns-clause-other_bytes : goal.returns-clause-other_bytes
returns-clause-other_bytes c = other_bytes_stay c.store_keeps_the_rest.ensures.bytes

pub returns-clause-output : goal.returns-clause-output
returns-clause-output c = output_grows

pub returns-clause-moves : goal.returns-clause-moves
returns-clause-moves c = moves_run_on

pub returns-clause-no_hart : goal.returns-clause-no_hart
returns-clause-no_hart c = no_hart_step

pub returns-clause-idle : goal.returns-clause-idle
returns-clause-idle c = idle_step
