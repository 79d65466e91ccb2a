-- The rows of races in a page, one more at a time; and the numbers of what was seen.
use Rattle.std.proofs.Common.{◌≡◌, ℕ, ◌+◌, ◌<◌, List, [], ◌∷◌, ◌++◌, map, take, length, get_or, ap, sym, ◌∙◌, refl, arith}
use Rattle.std.proofs.lemmas.List.{length-take-le, take_more}
use Rattle.rv_page.specs.PageFacts.{number_row_facts, numbers_facts, race_row_facts, race_rows_facts, rows_facts_from}
use Rattle.rv_tables.specs.declared.row.RaceRow.{RaceRow}
use Rattle.rv_shown.specs.declared.saying.lines.Seen.{Seen}
use Rattle.rv_markup.specs.Markup.{Written}
use Rattle.rv_markup.specs.declared.markup.Fact.{Fact}
use Rattle.rv_markup.specs.declared.markup.Fact.TheVariants.{Number}
use Rattle.rv_report.specs.declared.key.Key.{Key}

rows-push : (full k : ℕ) (rows : List (Key × RaceRow)) (row : Key × RaceRow) (facts : List Fact) → rows_facts_from full k (rows ++ row ∷ []) facts ≡ race_row_facts full (k + length rows) row (rows_facts_from full k rows facts)
rows-push full k [] row facts = ap (λ n. race_row_facts full n row facts) (omega arith)
rows-push full k (other ∷ rows) row facts =
    let before = race_row_facts full k other facts in
    rows-push full (k + 1) rows row before ∙ ap (λ n. race_row_facts full n row (rows_facts_from full (k + 1) rows before)) (omega arith)

rows_next : (full : ℕ) (told : List (Key × RaceRow)) (n : ℕ) (d : Key × RaceRow) (facts : List Fact) → n < length told → race_rows_facts full (take (n + 1) told) facts ≡ race_row_facts full (n + 1) (get_or told n d) (race_rows_facts full (take n told) facts)
rows_next full told n d facts inside =
    let front = take n told in
    let count : 1 + length front ≡ n + 1 = let len : length front ≡ n = length-take-le n told (omega (arith, inside)) in omega (arith, len) in
    ap (λ rows. race_rows_facts full rows facts) (take_more told n d inside) ∙ rows-push full 1 front (get_or told n d) facts
    ∙ ap (λ k. race_row_facts full k (get_or told n d) (race_rows_facts full front facts)) count

pub rows_step : (full : ℕ) (told : List (Key × RaceRow)) (n : ℕ) (d : Key × RaceRow) (start before after : Written) → n < length told → before ≡ record start { facts = race_rows_facts full (take n told) start.facts }
    → after ≡ record before { facts = race_row_facts full (n + 1) (get_or told n d) before.facts } → after ≡ record start { facts = race_rows_facts full (take (n + 1) told) start.facts }
rows_step full told n d start before after inside so_far step =
    step ∙ ap (λ (page : Written). record page { facts = race_row_facts full (n + 1) (get_or told n d) page.facts }) so_far
    ∙ ap (λ facts. record start { facts = facts }) (sym (rows_next full told n d start.facts inside))

-- the numbers of rows are the rows' numbers
pub numbers_of_rows : (rows : List Seen) (facts : List Fact) → number_row_facts rows facts ≡ numbers_facts (map (λ (one : Seen). one.number) rows) facts
numbers_of_rows [] facts = refl
numbers_of_rows (one ∷ rows) facts = numbers_of_rows rows (Number one.number ∷ facts)
