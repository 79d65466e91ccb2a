use Rattle.rv_stuck.proofs.PollsLemmas.{polls_where_it_loads}
use Rattle.rv_stuck.proofs.ReadsLemmas.{reads_once}
use Rattle.rv_stuck.proofs.laws.acts_are_of_rounds.Goals as goal

pub returns-clause-polls : goal.returns-clause-polls
returns-clause-polls c = polls_where_it_loads

pub returns-clause-reads : goal.returns-clause-reads
returns-clause-reads c = reads_once
