use Rattle.rv_report.proofs.ExhibitLaws.{none_of_a_fault, one_exhibit, one_fault}
use Rattle.rv_report.proofs.exhibiting.exhibits.Goals as goal

pub returns-clause-one : goal.returns-clause-one
returns-clause-one c = one_exhibit

pub returns-clause-none : goal.returns-clause-none
returns-clause-none c = none_of_a_fault

pub returns-clause-fault : goal.returns-clause-fault
returns-clause-fault c = one_fault
