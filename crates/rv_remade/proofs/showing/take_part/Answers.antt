use Rattle.std.proofs.Common.{◌∙◌, ℕ, List, All, Some, subst, sym}
use Rattle.std.proofs.lemmas.List.Elements.{All-pop}
use Rattle.rv_shown.specs.declared.shown.ShownRace.{ShownRace}
use Rattle.rv_remade.specs.internal.Showing.{Full, IsOfSchedule, IsShownIn}
use Rattle.rv_remade.proofs.showing.take_part.Goals as goal

pub loop-place-preserved : goal.loop-place-preserved
loop-place-preserved g c =
    let left : (full : Full) → IsShownIn full c.args.part → All (λ (one : ℕ × ShownRace). IsOfSchedule full c.args.part.schedule.items one.0 one.1) c.pop.new.self.items × IsOfSchedule full c.args.part.schedule.items c.in-Some.place c.in-Some.shown =
    λ full is. All-pop (λ (one : ℕ × ShownRace). IsOfSchedule full c.args.part.schedule.items one.0 one.1) c.loop-place.races.items c.pop.new.self.items (Some (c.in-Some.place, c.in-Some.shown)) c.in-Some.ensures.items (c.loop-place.invariant.left full is)
    in
    record {
      left = λ full is. (left full is).0;
      slots = λ full is before. c.in_ok-save_and_put.ensures.slots full (subst (λ (text : List ℕ). IsOfSchedule full text c.in-Some.place c.in-Some.shown) (sym c.deref.ensures.value) (left full is).1) (c.loop-place.invariant.slots full is before);
      count = c.in_ok-save_and_put.ensures.count ∙ c.loop-place.invariant.count;
      wanted = c.in_ok-save_and_put.ensures.wanted ∙ c.loop-place.invariant.wanted;
    }
