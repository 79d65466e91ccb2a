-- The rows of a table, by what an ignore list says of their races.
use Rattle.std.proofs.Common.{◌≡◌, List, Result, Ok, Err, IfOk, ap, ◌∙◌}
use Rattle.std.specs.Prelude.{Bool, filter}
use Rattle.rv_explain.specs.Naming.{Naming}
use Rattle.rv_tables.specs.declared.row.RaceRow.{RaceRow}
use Rattle.rv_tables.specs.declared.merge.ignore.Line.{Line}
use Rattle.rv_report.specs.declared.key.Key.{Key}

abbrev Row : Type 0
Row = Key × RaceRow

abbrev part : (Naming → List Line → Row → Bool) → Naming → List Line → List Row → List Row
part test naming lines rows = filter (test naming lines) rows

-- the same of the same naming and the same rows
pub parted_is : {T E : Type 0} (items : T → List Row) (r : Result T E) (test : Naming → List Line → Row → Bool) (naming other : Naming) (lines : List Line) (rows table : List Row) → naming ≡ other → rows ≡ table
    → IfOk r (λ parted. items parted ≡ part test naming lines rows) → IfOk r (λ parted. items parted ≡ part test other lines table)
parted_is items (Err fault) test naming other lines rows table same are h = tt
parted_is items (Ok parted) test naming other lines rows table same are h =
    h ∙ ap (λ (c : Naming). part test c lines rows) same ∙ ap (λ (rs : List Row). part test other lines rs) are
