-- Runs that are made together, before what they saw is added up.
use Rattle.std.specs.Prelude.{◌≡◌, ℕ, ◌+◌, List, Some, slice_get}
use Rattle.std.specs.List.{fold}
use Rattle.rv_tables.specs.Changed as changed
use Rattle.rv_search.specs.Hunt.{Hunt}
use Rattle.rv_search.specs.Hunted.{changed_rows, rows_of, tried_of}
use Rattle.rv_search.specs.KeptRun.{IsOfRun}
use Rattle.rv_tables.specs.Near as near
use Rattle.rv_tables.specs.Orders as orders
use Rattle.rv_tables.specs.Rows.{added}
use Rattle.rv_search.specs.Tally as tally
use Rattle.rv_search.specs.declared.hunted.Hunted.{Hunted}
use Rattle.rv_search.specs.declared.kept_run.KeptRun.{KeptRun}

-- so many runs of a hunt from a number on
pub record Lot : Type 0 where
  pub hunt : Hunt
  pub next : ℕ
  pub count : ℕ

-- what is kept of the runs from that number on
abbrev pub IsLot : Hunt → ℕ → List KeptRun → Type 0
IsLot hunt next lot = (place : ℕ) (kept : KeptRun) → slice_get lot place ≡ Some kept → IsOfRun hunt (next + place) kept

-- one run more
unfoldable pub with_run : Hunted → ℕ → KeptRun → Hunted
with_run hunted run kept = record {
  tally = tally.added hunted.tally kept.summary;
  table = fold added hunted.table (rows_of run kept);
  changed = fold changed.added hunted.changed (changed_rows run kept);
  near = fold near.added hunted.near kept.near.items;
  orders = fold orders.added hunted.orders (tried_of run kept);
}
