use Rattle.std.proofs.Common.{◌∙◌, All, Some}
use Rattle.std.proofs.lemmas.List.Elements.{All-pop}
use Rattle.rv_remade.specs.internal.Showing.{Full, IsShownIn}
use Rattle.rv_remade.proofs.showing.take_parts.Goals as goal

pub loop-part-preserved : goal.loop-part-preserved
loop-part-preserved g c =
    let left : (full : Full) → All (IsShownIn full) c.args.parts.items → All (IsShownIn full) c.pop.new.self.items × IsShownIn full c.in-Some.part =
    λ full are. All-pop (IsShownIn full) c.loop-part.parts.items c.pop.new.self.items (Some c.in-Some.part) c.in-Some.ensures.items (c.loop-part.invariant.left full are)
    in
    record {
      left = λ full are. (left full are).0;
      slots = λ full are before. c.in_ok-take_part.ensures.slots full (left full are).1 (c.loop-part.invariant.slots full are before);
      count = c.in_ok-take_part.ensures.count ∙ c.loop-part.invariant.count;
      wanted = c.in_ok-take_part.ensures.wanted ∙ c.loop-part.invariant.wanted;
    }
