-- What the order of a race's accesses makes, by its row.
use Rattle.std.proofs.Common.{◌≡◌, Bool, true, false, Option, Some, None, List, [], ◌∷◌, refl, sym, ap, ◌∙◌}
use Rattle.std.specs.Prelude.{if◌then◌else◌}
use Rattle.rv_tables.specs.Orders.{order_by, order_of}
use Rattle.rv_tables.specs.declared.orders.Order.{Order}
use Rattle.rv_tables.specs.declared.orders.Order.TheVariants.{Untried}
use Rattle.rv_tables.specs.declared.orders.OrderRow.{OrderRow}
use Rattle.rv_tables.specs.Keyed.{row_at}
use Rattle.rv_report.specs.Races.{same_key}
use Rattle.rv_report.specs.declared.key.Key.{Key}

order_in : Option OrderRow → Order
order_in None = Untried
order_in (Some row) = order_by row

order-row : (key : Key) (rows : List (Key × OrderRow)) → order_in (row_at same_key rows key) ≡ order_of rows key
unfolding order_in
order-row key [] = refl
order-row key (e ∷ es) =
    elim (same_key key e.0) as (λ (b : Bool). order_in (if b then Some e.1 else row_at same_key es key) ≡ (if b then order_by e.1 else order_of es key)) [
      | true ↦ refl
      | false ↦ order-row key es
    ]

pub some-order : (row : Option OrderRow) (found : OrderRow) (key : Key) (rows : List (Key × OrderRow)) → row ≡ row_at same_key rows key → row ≡ Some found → order_by found ≡ order_of rows key
unfolding order_in
some-order row found key rows is there = ap order_in (sym there ∙ is) ∙ order-row key rows

pub no-order : (row : Option OrderRow) (key : Key) (rows : List (Key × OrderRow)) → row ≡ row_at same_key rows key → row ≡ None → Untried ≡ order_of rows key
unfolding order_in
no-order row key rows is there = ap order_in (sym there ∙ is) ∙ order-row key rows
