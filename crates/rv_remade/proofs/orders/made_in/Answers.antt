use Rattle.std.proofs.Common.{subst, sym}
use Rattle.std.proofs.lemmas.List.Elements.{All-nil}
use Rattle.rv_remade.specs.internal.OrderShowing.{AreMade, IsPlaced}
use Rattle.rv_remade.proofs.orders.made_in.Goals as goal

pub loop-part-init : goal.loop-part-init
loop-part-init c = record {
  probes = c.probes_of-probes.ensures;
  made = subst (AreMade c.args.again) (sym c.new-made.ensures.items) (All-nil (IsPlaced c.args.again));
}
