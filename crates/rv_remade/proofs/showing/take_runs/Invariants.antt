-- what is left of the runs, and the slots so far
use Rattle.std.proofs.Common.{◌≡◌, All, length}
use Rattle.std.specs.Prelude.{is_some}
use Rattle.rv_remade.specs.Saved.{IfSaved}
use Rattle.rv_remade.specs.internal.Showing.{AreSlots, Full, AreShown}
use Rattle.rv_remade.proofs.showing.take_runs.Given as goal

abbrev pub invariant-loop-parts : goal.invariant-loop-parts
invariant-loop-parts g l = record {
  left : (full : Full) → All (AreShown full) l.initial.runs.items → All (AreShown full) l.runs.items;
  slots : (full : Full) → All (AreShown full) l.initial.runs.items → AreSlots full (IfSaved g.D.Folder.has_failed g.D.Folder.Holds l.initial.folder) l.initial.slots.items → AreSlots full (IfSaved g.D.Folder.has_failed g.D.Folder.Holds l.folder) l.slots.items;
  count : length l.slots.items ≡ length l.initial.slots.items;
  wanted : is_some l.folder ≡ is_some l.initial.folder;
}

abbrev pub decreases-loop-parts : goal.decreases-loop-parts
decreases-loop-parts g l = length l.runs.items
