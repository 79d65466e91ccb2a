use Rattle.std.proofs.Common.{refl}
use Rattle.rv_drive.proofs.KeptLemmas.{kept_new}
use Rattle.rv_drive.proofs.ahead.Ahead.new.Goals as goal

pub look-requires-clause-kept : goal.look-requires-clause-kept
look-requires-clause-kept c = kept_new c.args.collider.entries _ c.requires refl
