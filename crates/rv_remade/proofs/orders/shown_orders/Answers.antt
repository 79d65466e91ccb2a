use Rattle.std.proofs.Common.{◌∙◌, All, refl, subst, sym}
use Rattle.std.specs.Map.{keys_of}
use Rattle.std.proofs.lemmas.Map.Entries.{length-keys_of}
use Rattle.rv_remade.proofs.OrderShowingLemmas.{none_yet, orders_count}
use Rattle.rv_remade.specs.internal.OrderShowing.{Full, IsWanted}
use Rattle.rv_remade.proofs.orders.shown_orders.Goals as goal

pub loop-runs-init : goal.loop-runs-init
loop-runs-init g c = record {
  known = none_yet c.args.full.now.hunt.now c.args.table.now c.args.full.now.rows.now c.in_ok-shown.shown.items c.in_ok-shown.ensures;
  wanted = refl;
}

pub loop-runs-preserved : goal.loop-runs-preserved
loop-runs-preserved g c =
    let full : Full = record { hunt = c.args.full.now.hunt.now; tried = c.args.table.now; keys = keys_of c.args.full.now.rows.now } in
    record {
      known = c.in_ok-take_runs.ensures.known full (c.in_ok-made.ensures full refl (subst (All (IsWanted full.tried full.keys)) (sym c.deref-in-loop-runs.ensures.value) c.in_ok-wanted.ensures)) c.loop-runs.invariant.known;
      wanted = c.in_ok-take_runs.ensures.wanted ∙ c.loop-runs.invariant.wanted;
    }

pub returns-clause-count : goal.returns-clause-count
returns-clause-count g c =
    orders_count c.args.full.now.hunt.now c.args.table.now (keys_of c.args.full.now.rows.now) c.loop-runs.shown.items c.loop-runs.invariant.known
    ∙ length-keys_of c.args.full.now.rows.now
