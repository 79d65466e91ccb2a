-- what is shown so far
use Rattle.std.proofs.Common.{◌≡◌}
use Rattle.std.specs.Map.{keys_of}
use Rattle.std.specs.Prelude.{is_some}
use Rattle.rv_remade.specs.OrderShown.{AreOrdersShown}
use Rattle.rv_remade.proofs.orders.shown_orders.Given as goal

abbrev pub invariant-loop-runs : goal.invariant-loop-runs
invariant-loop-runs g l = record {
  known : AreOrdersShown l.full.hunt.now l.table (keys_of l.full.rows.now) l.shown.items;
  wanted : is_some l.folder ≡ is_some l.initial.folder;
}
