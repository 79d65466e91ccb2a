use Rattle.std.proofs.Common.{◌≡◌, ◌∙◌, ◌+◌, ℕ, ap, subst}
use Rattle.rv_remade.proofs.ShowingLemmas.{slot_put}
use Rattle.rv_remade.specs.Saved.{IfSaved}
use Rattle.rv_remade.proofs.showing.save_and_put.Goals as goal

pub returns-clause-slots : goal.returns-clause-slots
returns-clause-slots g c =
    let number : c.from.result + 1 ≡ c.args.place + 1 = ap (λ n. n + 1) c.from.ensures in
    let saved = subst (λ (n : ℕ). IfSaved g.D.Folder.has_failed g.D.Folder.Holds c.save.new.folder n c.args.schedule.now) number c.in_ok-save.ensures.saved in
    λ full of before.
    slot_put full (IfSaved g.D.Folder.has_failed g.D.Folder.Holds c.args.folder.now) (IfSaved g.D.Folder.has_failed g.D.Folder.Holds c.save.new.folder) c.args.schedule.now c.args.place c.args.shown c.args.slots.now.items c.put.new.slots.items
    c.put.ensures saved (λ n text apart. c.in_ok-save.ensures.kept n text (λ same. apart (same ∙ number))) of before
