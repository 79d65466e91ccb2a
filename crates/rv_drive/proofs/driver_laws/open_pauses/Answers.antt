use Rattle.rv_drive.proofs.GoingOn.{going_on}
use Rattle.rv_drive.proofs.driver_laws.open_pauses.Goals as goal

pub returns : goal.returns
returns c = going_on c.longer_lists.ensures.stay c.longer_lists.ensures.ends
