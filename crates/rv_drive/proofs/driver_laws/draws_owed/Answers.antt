use Rattle.rv_drive.proofs.FirstDraws.{are_owed, are_paid, draws_arm}
use Rattle.rv_drive.proofs.OwedLemmas.{index_more, owed_more, paid_is_past}
use Rattle.rv_drive.proofs.driver_laws.draws_owed.Goals as goal

pub returns : goal.returns
returns c = record { arm = draws_arm; first = are_owed; paid = are_paid; past = paid_is_past; owed = owed_more; index = index_more }
