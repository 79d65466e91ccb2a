-- what is left of the races, and the slots so far
use Rattle.std.proofs.Common.{◌≡◌, All, length}
use Rattle.std.specs.Prelude.{is_some}
use Rattle.rv_remade.specs.Saved.{IfSaved}
use Rattle.rv_remade.specs.internal.Showing.{AreSlots, Full, IsOfSchedule, IsShownIn}
use Rattle.rv_remade.proofs.showing.take_part.Given as goal

abbrev pub invariant-loop-place : goal.invariant-loop-place
invariant-loop-place g l = record {
  left : (full : Full) → IsShownIn full l.fn.part → All (λ one. IsOfSchedule full l.schedule.items one.0 one.1) l.races.items;
  slots : (full : Full) → IsShownIn full l.fn.part → AreSlots full (IfSaved g.D.Folder.has_failed g.D.Folder.Holds l.initial.folder) l.initial.slots.items → AreSlots full (IfSaved g.D.Folder.has_failed g.D.Folder.Holds l.folder) l.slots.items;
  count : length l.slots.items ≡ length l.initial.slots.items;
  wanted : is_some l.folder ≡ is_some l.initial.folder;
}

abbrev pub decreases-loop-place : goal.decreases-loop-place
decreases-loop-place g l = length l.races.items
