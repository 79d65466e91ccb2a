use Rattle.std.proofs.Common.{◌∙◌}
use Rattle.rv_remade.proofs.ShowingLemmas.{all_shown}
use Rattle.rv_remade.specs.Saved.{IfSaved}
use Rattle.rv_remade.specs.internal.Showing.{of_full}
use Rattle.rv_remade.proofs.shown.InFull.show.Goals as goal

pub loop-place-preserved : goal.loop-place-preserved
loop-place-preserved g c = record {
  count = c.in_ok-fill.ensures.count ∙ c.loop-place.invariant.count;
  slots = c.in_ok-fill.ensures.slots c.loop-place.invariant.slots;
  wanted = c.in_ok-fill.ensures.wanted ∙ c.loop-place.invariant.wanted;
}

pub returns-clause-shown : goal.returns-clause-shown
returns-clause-shown g c =
    all_shown (of_full c.args.self.now) (IfSaved g.D.Folder.has_failed g.D.Folder.Holds c.loop-place.folder) c.loop-place.slots.items c.in_ok-races_in.field-0.items
    (c.in_ok-races_in.ensures.count ∙ c.loop-place.invariant.count) c.in_ok-races_in.ensures.races c.loop-place.invariant.slots
