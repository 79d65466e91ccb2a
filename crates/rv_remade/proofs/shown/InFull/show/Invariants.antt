-- the slots so far
use Rattle.std.proofs.Common.{◌≡◌, length}
use Rattle.std.specs.Prelude.{is_some}
use Rattle.rv_remade.specs.Saved.{IfSaved}
use Rattle.rv_remade.specs.internal.Showing.{AreSlots, of_full}
use Rattle.rv_remade.proofs.shown.InFull.show.Given as goal

abbrev pub invariant-loop-place : goal.invariant-loop-place
invariant-loop-place g l = record {
  count : length l.slots.items ≡ l.count;
  slots : AreSlots (of_full l.self) (IfSaved g.D.Folder.has_failed g.D.Folder.Holds l.folder) l.slots.items;
  wanted : is_some l.folder ≡ is_some l.initial.folder;
}
