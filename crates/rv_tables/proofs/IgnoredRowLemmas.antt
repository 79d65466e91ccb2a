-- A row more that is told or ignored.
use Rattle.std.proofs.Common.{◌≡◌, ◌∙◌, ℕ, ◌+◌, ◌<◌, Bool, List, [], ◌∷◌, ◌++◌, filter, take, length, get_or, sym, ap}
use Rattle.std.specs.Prelude.{if◌then◌else◌}
use Rattle.std.proofs.lemmas.List.Elements.{filter_more}
use Rattle.rv_tables.specs.declared.row.RaceRow.{RaceRow}
use Rattle.rv_report.specs.declared.key.Key.{Key}

abbrev Row : Type 0
Row = Key × RaceRow

pub row_more : (keep : Row → Bool) (rows : List Row) (place : ℕ) (other : Row) (found : Bool) (before after : List Row) → place < length rows → found ≡ keep (get_or rows place other) → before ≡ filter keep (take place rows)
    → after ≡ before ++ (if found then get_or rows place other ∷ [] else []) → after ≡ filter keep (take (place + 1) rows)
row_more keep rows place other found before after within kept so_far is =
    is ∙ ap (λ (rs : List Row). rs ++ (if found then get_or rows place other ∷ [] else [])) so_far
    ∙ ap (λ (b : Bool). filter keep (take place rows) ++ (if b then get_or rows place other ∷ [] else [])) kept
    ∙ sym (filter_more keep rows place other within)
