use Rattle.std.proofs.Common.{◌∙◌, sym}
use Rattle.rv_remade.proofs.ShowingLemmas.{of_walked}
use Rattle.rv_remade.proofs.orders.Again.add_probed.Goals as goal

pub add_part-requires : goal.add_part-requires
add_part-requires c = of_walked c.args.self.now.hunt.now c.args.of.run c.in_ok-whole.whole c.requires.walked (record {
  walk = c.args.probes.now;
  is_walk = c.requires.probes.is_walk;
  part = c.in_ok-part.part;
  is_part = c.in_ok-part.ensures.part;
  is_whole = c.in_ok-whole.ensures c.args.probes.now (c.requires.probes.harts_are ∙ sym c.deref.ensures.value) c.in_ok-part.ensures.part;
})
