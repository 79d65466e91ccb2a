-- what is left of the runs, and the slots so far
use Rattle.std.proofs.Common.{◌≡◌, All, length}
use Rattle.std.specs.Prelude.{is_some}
use Rattle.rv_remade.specs.Saved.{IfSaved}
use Rattle.rv_remade.specs.internal.Showing.{AreSlots, Full, IsShownIn}
use Rattle.rv_remade.proofs.showing.take_parts.Given as goal

abbrev pub invariant-loop-part : goal.invariant-loop-part
invariant-loop-part g l = record {
  left : (full : Full) → All (IsShownIn full) l.initial.parts.items → All (IsShownIn full) l.parts.items;
  slots : (full : Full) → All (IsShownIn full) l.initial.parts.items → AreSlots full (IfSaved g.D.Folder.has_failed g.D.Folder.Holds l.initial.folder) l.initial.slots.items → AreSlots full (IfSaved g.D.Folder.has_failed g.D.Folder.Holds l.folder) l.slots.items;
  count : length l.slots.items ≡ length l.initial.slots.items;
  wanted : is_some l.folder ≡ is_some l.initial.folder;
}

abbrev pub decreases-loop-part : goal.decreases-loop-part
decreases-loop-part g l = length l.parts.items
