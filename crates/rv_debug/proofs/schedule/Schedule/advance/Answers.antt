use Rattle.std.proofs.Common.{◌≡◌, ◌<◌, Some, length, refl, sym, subst}
use Rattle.std.specs.Prelude.{slice_get}
use Rattle.std.proofs.lemmas.Option.{slice_get_read}
use Rattle.rv_collide.specs.Stored.{Stored}
use Rattle.rv_debug.proofs.CheckpointLemmas.{stays}
use Rattle.rv_debug.proofs.schedule.Schedule.advance.Goals as goal

pub returns-in_default : goal.returns-in_default
returns-in_default c =
    let xs = c.self.inside.entries.items in
    let below = subst (λ (s : Stored). c.args.place < length s.entries) (sym c.self.view_is) c.requires.within in
    let read = slice_get_read xs (length xs) c.args.place c.index.result.now refl below c.index.ensures in
    let there = subst (λ (s : Stored). slice_get s.entries c.args.place ≡ Some c.index.result.now) c.self.view_is read in
    let still = stays c.steps_of_legal_schedules.ensures.others c.args.self.now c.args.place c.index.result.now c.args.machine.now there c.in_default.not-Stepped c.requires.here in
    record { after = still.0; access = still.1; refused = tt }
