use Rattle.std.proofs.Common.{arith}
use Rattle.rv_drive.proofs.PickerLemmas.{picks}
use Rattle.rv_drive.proofs.ahead.picker.Picker.pick.Goals as goal

pub returns : goal.returns
returns c =
    rw (← c.self.view_is, c.from-2.ensures, c.from-3.ensures, c.from.ensures, c.self.invariant.1)
    (picks c.args.word c.self.inside.count c.self.invariant.0 (omega arith) (omega arith))
