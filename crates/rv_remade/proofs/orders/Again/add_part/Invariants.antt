-- the trials so far, in the same run
use Rattle.std.proofs.Common.{◌≡◌}
use Rattle.rv_collide.specs.Numbers.{numbers}
use Rattle.rv_explain.specs.Races.{run_of}
use Rattle.rv_remade.specs.Shown.{run_told}
use Rattle.rv_remade.specs.internal.OrderShowing.{AreMade, reports_of}
use Rattle.rv_remade.proofs.orders.Again.add_part.Given as goal

abbrev pub invariant-loop-number : goal.invariant-loop-number
invariant-loop-number l = record {
  made : AreMade l.self l.fn.made.items → AreMade l.self l.made.items;
  plan : numbers l.plan ≡ l.session.plan;
  image : l.session.image ≡ l.self.symbols.now.image;
  reports : l.reports.items ≡ reports_of l.self (run_of l.session);
  run : run_of l.session ≡ run_told l.self.symbols.now.image l.fn.left;
}
