use Rattle.rv_hart.proofs.LawLemmas.{trap_law, exit_law, set_law, load_law, store_law, reserve_law, sc_succeeds_law, sc_fails_law, amo_law, print_law}
use Rattle.rv_hart.proofs.laws.steps_by_class.Goals as goal

pub returns-clause-trap : goal.returns-clause-trap
returns-clause-trap c = trap_law

pub returns-clause-exit : goal.returns-clause-exit
returns-clause-exit c = exit_law

pub returns-clause-set : goal.returns-clause-set
returns-clause-set c = set_law

pub returns-clause-load : goal.returns-clause-load
returns-clause-load c = load_law

pub returns-clause-store : goal.returns-clause-store
returns-clause-store c = store_law

pub returns-clause-reserve : goal.returns-clause-reserve
returns-clause-reserve c = reserve_law

pub returns-clause-sc_succeeds : goal.returns-clause-sc_succeeds
returns-clause-sc_succeeds c = sc_succeeds_law

pub returns-clause-sc_fails : goal.returns-clause-sc_fails
returns-clause-sc_fails c = sc_fails_law

pub returns-clause-amo : goal.returns-clause-amo
returns-clause-amo c = amo_law

pub returns-clause-print : goal.returns-clause-print
returns-clause-print c = print_law
