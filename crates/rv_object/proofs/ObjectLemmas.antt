-- The races in an object, one more at a time.
use Rattle.std.proofs.Common.{◌≡◌, ℕ, ◌+◌, ◌<◌, List, [], ◌∷◌, ◌++◌, take, length, get_or, ap, sym, ◌∙◌, arith}
use Rattle.std.proofs.lemmas.List.{length-take-le, take_more}
use Rattle.rv_object.specs.HuntObject.{row_facts, rows_facts_from}
use Rattle.rv_tables.specs.declared.row.RaceRow.{RaceRow}
use Rattle.rv_json.specs.Object.{Member, Part}
use Rattle.rv_report.specs.declared.key.Key.{Key}

rows-push : (k : ℕ) (rows : List (Key × RaceRow)) (row : Key × RaceRow) (facts : List Member) → rows_facts_from k (rows ++ row ∷ []) facts ≡ row_facts (k + length rows) row (rows_facts_from k rows facts)
rows-push k [] row facts = ap (λ n. row_facts n row facts) (omega arith)
rows-push k (other ∷ rows) row facts =
    let before = row_facts k other facts in
    rows-push (k + 1) rows row before ∙ ap (λ n. row_facts n row (rows_facts_from (k + 1) rows before)) (omega arith)

rows_next : (told : List (Key × RaceRow)) (n : ℕ) (d : Key × RaceRow) (facts : List Member) → n < length told → rows_facts_from 1 (take (n + 1) told) facts ≡ row_facts (n + 1) (get_or told n d) (rows_facts_from 1 (take n told) facts)
rows_next told n d facts inside =
    let front = take n told in
    let count : 1 + length front ≡ n + 1 = let len : length front ≡ n = length-take-le n told (omega (arith, inside)) in omega (arith, len) in
    ap (λ rows. rows_facts_from 1 rows facts) (take_more told n d inside) ∙ rows-push 1 front (get_or told n d) facts
    ∙ ap (λ k. row_facts k (get_or told n d) (rows_facts_from 1 front facts)) count

pub rows_step : (told : List (Key × RaceRow)) (n : ℕ) (d : Key × RaceRow) (start before after : Part) → n < length told → before ≡ record start { facts = rows_facts_from 1 (take n told) start.facts }
    → after ≡ record before { facts = row_facts (n + 1) (get_or told n d) before.facts } → after ≡ record start { facts = rows_facts_from 1 (take (n + 1) told) start.facts }
rows_step told n d start before after inside so_far step =
    step ∙ ap (λ (json : Part). record json { facts = row_facts (n + 1) (get_or told n d) json.facts }) so_far
    ∙ ap (λ facts. record start { facts = facts }) (sym (rows_next told n d start.facts inside))
