use Rattle.std.proofs.Common.{◌∙◌, All, Some}
use Rattle.std.proofs.lemmas.List.Elements.{All-pop}
use Rattle.rv_remade.specs.internal.Showing.{Full, AreShown}
use Rattle.rv_remade.proofs.showing.take_runs.Goals as goal

pub loop-parts-preserved : goal.loop-parts-preserved
loop-parts-preserved g c =
    let left : (full : Full) → All (AreShown full) c.args.runs.items → All (AreShown full) c.pop.new.self.items × AreShown full c.in-Some.parts =
    λ full are. All-pop (AreShown full) c.loop-parts.runs.items c.pop.new.self.items (Some c.in-Some.parts) c.in-Some.ensures.items (c.loop-parts.invariant.left full are)
    in
    record {
      left = λ full are. (left full are).0;
      slots = λ full are before. c.in_ok-take_parts.ensures.slots full (left full are).1 (c.loop-parts.invariant.slots full are before);
      count = c.in_ok-take_parts.ensures.count ∙ c.loop-parts.invariant.count;
      wanted = c.in_ok-take_parts.ensures.wanted ∙ c.loop-parts.invariant.wanted;
    }
