-- What difference the orders of races' accesses make: the trials of runs, added up by races.
use Rattle.std.specs.Prelude.{ℕ, ◌+◌, Bool, true, false, nat_lt, Option, Some, None, option_and_then, if◌then◌else◌, List, [], ◌∷◌}
use Rattle.std.specs.List.{fold}
use Rattle.std.specs.Option.{option_or}
use Rattle.rv_collide.specs.Counts.{saturated}
use Rattle.rv_tables.specs.Keyed.{added_by}
use Rattle.rv_tables.specs.declared.orders.Order.{Order}
use Rattle.rv_tables.specs.declared.orders.Order.TheVariants as order
use Rattle.rv_tables.specs.declared.orders.OrderRow.{OrderRow}
use Rattle.rv_tables.specs.declared.orders.TrialPlace.{TrialPlace}
use Rattle.rv_tables.specs.declared.orders.TriedOrder.{TriedOrder}
use Rattle.rv_orders.specs.declared.difference.Difference.{Difference}
use Rattle.rv_orders.specs.declared.difference.Difference.TheVariants as difference
use Rattle.rv_report.specs.Races.{same_key}
use Rattle.rv_report.specs.declared.key.Key.{Key}

-- ---- counts

-- one trial
abbrev pub one : OrderRow
one = record { trials = 1; ends = 0; prints = 0; memory = 0; memory_at = None; first = None }

-- where a trial of the run of that number was made
abbrev pub place_of : ℕ → TriedOrder → TrialPlace
place_of run tried = record { run = run; part = tried.part; entry = tried.entry; number = tried.number }

-- the row of a single trial that was made there
abbrev pub row_by : Difference → TrialPlace → OrderRow
row_by difference.Ends at = record one { ends = 1; first = Some at }
row_by difference.Prints at = record one { prints = 1 }
row_by (difference.Memory address) at = record one { memory = 1; memory_at = Some address }
row_by difference.None at = one

abbrev pub row_of : ℕ → TriedOrder → Key × OrderRow
row_of run tried = (tried.key, row_by tried.difference (place_of run tried))

-- Two rows of a race made one. A count stays at the largest number of 64 bits once there.
abbrev pub joined : OrderRow → OrderRow → OrderRow
joined first later = record {
  trials = saturated (first.trials + later.trials);
  ends = saturated (first.ends + later.ends);
  prints = saturated (first.prints + later.prints);
  memory = saturated (first.memory + later.memory);
  memory_at = option_or first.memory_at later.memory_at;
  first = option_or first.first later.first;
}

-- a row more: it is joined to that of its race, or comes last where there is none
abbrev pub added : List (Key × OrderRow) → Key × OrderRow → List (Key × OrderRow)
added = added_by same_key joined

-- the table of rows, in the order of the first row of each race
unfoldable pub orders_of : List (Key × OrderRow) → List (Key × OrderRow)
orders_of rows = fold added [] rows

-- ---- what they say

-- some hart ended otherwise by some trial; else harts printed otherwise; else memory differed; else all ended alike
abbrev pub order_by : OrderRow → Order
order_by row =
    if nat_lt 0 row.ends then order.Matters else (if nat_lt 0 row.prints then order.Prints else (if nat_lt 0 row.memory then order.Memory else order.Alike))

-- what the order of a race's accesses makes
abbrev pub order_of : List (Key × OrderRow) → Key → Order
order_of [] key = order.Untried
order_of (row ∷ rows) key = if same_key key row.0 then order_by row.1 else order_of rows key

-- the first trial by which some hart ended otherwise
abbrev pub first_of : Option OrderRow → Option TrialPlace
first_of row = option_and_then (λ (r : OrderRow). r.first) row

abbrev pub matters : Order → Bool
matters order.Matters = true
matters order.Prints = false
matters order.Memory = false
matters order.Alike = false
matters order.Untried = false
