-- Each row of a hunt's table tells of a report of the run that it names.
use Rattle.std.proofs.Common.{◌≡◌, ℕ, zero, suc, ◌+◌, ◌⊎◌, inl, inr, Bool, true, false, List, [], ◌∷◌, length, Option, None, Some, refl, sym, ap, subst, ◌∙◌, rules, arith}
use Rattle.std.specs.Prelude.{slice_get, nat_lt, option_map, ◌-◌}
use Rattle.std.specs.List.{fold}
use Rattle.std.specs.Cmp.{IsEquivalence}
use Rattle.std.specs.Cmp.Rules.{comparing}
use Rattle.std.proofs.lemmas.Option.{slice_get-map}
use Rattle.rv_explain.specs.Classes.{rank}
use Rattle.rv_search.proofs.ResultLemmas.{split, table_seen}
use Rattle.rv_search.specs.Hunted.{rows_from, rows_of}
use Rattle.rv_search.specs.HuntedLaws.{RowsAreTold}
use Rattle.rv_search.specs.KeptRun.{IsOfRun}
use Rattle.rv_tables.specs.Rows.{added, joined, row_of, table_of}
use Rattle.rv_search.specs.declared.hunted.Hunted.{Hunted}
use Rattle.rv_search.specs.declared.kept_run.KeptRun.{KeptRun}
use Rattle.rv_tables.specs.declared.row.PartReport.{PartReport}
use Rattle.rv_tables.specs.declared.row.RaceRow.{RaceRow}
use Rattle.rv_report.specs.Races.{same_key}
use Rattle.rv_report.specs.declared.key.Key.{Key}

same_key_equiv : IsEquivalence same_key
same_key_equiv = search (comparing, rules)

abbrev Row : Type 0
Row = Key × RaceRow

-- a row without its count
uncounted : RaceRow → RaceRow
uncounted row = record row { count = 0 }

-- two rows tell of the same report
record Same (x r : Row) : Type 0 where
  key : same_key x.0 r.0 ≡ true
  told : uncounted x.1 ≡ uncounted r.1

same_self : (x : Row) → Same x x
same_self x = record { key = same_key_equiv.refl x.0; told = refl }

same_trans : (x y z : Row) → Same x y → Same y z → Same x z
same_trans x y z a b = record { key = same_key_equiv.congr x.0 y.0 z.0 a.key ∙ b.key; told = a.told ∙ b.told }

record Among (xs : List Row) (x : Row) : Type 0 where
  place : ℕ
  row : Row
  there : slice_get xs place ≡ Some row
  same : Same x row

further : (x : Row) (y : Row) (ys : List Row) → Among ys x → Among (y ∷ ys) x
further x y ys a = record { place = suc a.place; row = a.row; there = a.there; same = a.same }

here : (x y : Row) (ys : List Row) → Same x y → Among (y ∷ ys) x
here x y ys same = record { place = 0; row = y; there = refl; same = same }

through : (x y : Row) (ys : List Row) → Same x y → Among ys y → Among ys x
through x y ys same a = record { place = a.place; row = a.row; there = a.there; same = same_trans x y a.row same a.same }

-- ---- where a row of a table comes from

joined_step : (e : Row) (es : List Row) (row x : Row) (b : Bool) → nat_lt (rank row.1.class) (rank e.1.class) ≡ b → same_key row.0 e.0 ≡ true → x ≡ (e.0, joined e.1 row.1) → Among (e ∷ es) x ⊎ Same x row
unfolding uncounted
joined_step e es row x true later same is =
    inr (subst (λ (y : Row). Same y row) (sym is) (record { key = same_key_equiv.symm e.0 row.0 ∙ same; told = rw later refl }))
joined_step e es row x false later same is =
    inl (here x e es (subst (λ (y : Row). Same y e) (sym is) (record { key = same_key_equiv.refl e.0; told = rw later refl })))

first_some : {X : Type 0} (x y : X) → Some x ≡ Some y → y ≡ x
first_some x y h = cc

added_step : (e : Row) (es : List Row) (row x : Row) (place : ℕ) (b : Bool) → same_key row.0 e.0 ≡ b → ((at : ℕ) → slice_get (added es row) at ≡ Some x → Among es x ⊎ Same x row) → slice_get (added (e ∷ es) row) place ≡ Some x → Among (e ∷ es) x ⊎ Same x row
added_step e es row x zero true same rest there =
    joined_step e es row x (nat_lt (rank row.1.class) (rank e.1.class)) refl same (first_some (e.0, joined e.1 row.1) x (rw same at there))
added_step e es row x (suc place) true same rest there =
    inl (further x e es (record { place = place; row = x; there = (rw same at there); same = same_self x }))
added_step e es row x zero false same rest there =
    inl (here x e es (subst (λ (y : Row). Same y e) (sym (first_some e x (rw same at there))) (same_self e)))
added_step e es row x (suc place) false same rest there =
    elim (rest place (rw same at there)) [
      | inl among ↦ inl (further x e es among)
      | inr is ↦ inr is
    ]

added_from : (es : List Row) (row x : Row) (place : ℕ) → slice_get (added es row) place ≡ Some x → Among es x ⊎ Same x row
added_from [] row x zero there = inr (subst (λ (y : Row). Same y row) (sym (first_some row x there)) (same_self row))
added_from [] row x (suc place) there = (let no : None ≡ Some x = there in cc)
added_from (e ∷ es) row x place there =
    added_step e es row x place (same_key row.0 e.0) refl (λ at. added_from es row x at) there

table_from : (rows table : List Row) (x : Row) → Among (fold added table rows) x → Among table x ⊎ Among rows x
table_from [] table x a = inl a
table_from (row ∷ rows) table x a =
    elim (table_from rows (added table row) x a) [
      | inl before ↦
          elim (added_from table row before.row before.place before.there) [
            | inl among ↦ inl (through x before.row table before.same among)
            | inr is ↦ inr (here x row rows (same_trans x before.row row before.same is))
          ]
      | inr later ↦ inr (further x row rows later)
    ]

no_row : (x : Row) → Among [] x → ⊥
no_row x a = (let no : None ≡ Some a.row = a.there in cc)

of_rows : (rows : List Row) (x : Row) (place : ℕ) → slice_get (table_of rows) place ≡ Some x → Among rows x
unfolding table_of
of_rows rows x place there =
    elim (table_from rows [] x (record { place = place; row = x; there = there; same = same_self x })) [
      | inl none ↦ absurd (no_row x none)
      | inr among ↦ among
    ]

-- ---- the report of a row

record Told (first : ℕ) (runs : List KeptRun) (row : Row) : Type 0 where
  place : ℕ
  kept : KeptRun
  there : slice_get runs place ≡ Some kept
  at : ℕ
  report : PartReport
  among : slice_get kept.reports.items at ≡ Some report
  is : row ≡ row_of (first + place) report

of_report : (run : ℕ) (o : Option PartReport) (row : Row) → option_map (row_of run) o ≡ Some row → (report : PartReport) × (o ≡ Some report) × (row ≡ row_of run report)
of_report run None row h = (let no : None ≡ Some row = h in cc)
of_report run (Some report) row h = (report, refl, first_some (row_of run report) row h)

of_runs : (first : ℕ) (runs : List KeptRun) (row : Row) (n : ℕ) → slice_get (rows_from first runs) n ≡ Some row → Told first runs row
unfolding rows_from
of_runs first [] row n there = (let no : None ≡ Some row = there in cc)
of_runs first (kept ∷ runs) row n there =
    elim (split (rows_of first kept) (rows_from (first + 1) runs) n row there) [
      | inl now ↦
          (let told = of_report first (slice_get kept.reports.items n) row (sym (slice_get-map (row_of first) kept.reports.items n) ∙ now) in
          record {
            place = 0;
            kept = kept;
            there = refl;
            at = n;
            report = told.0;
            among = told.1;
            is = told.2 ∙ ap (λ (k : ℕ). row_of k told.0) (omega arith);
          })
      | inr later ↦
          (let told = of_runs (first + 1) runs row (n - length (rows_of first kept)) later.1 in
          record {
            place = suc told.place;
            kept = told.kept;
            there = told.there;
            at = told.at;
            report = told.report;
            among = told.among;
            is = told.is ∙ ap (λ (k : ℕ). row_of k told.report) (omega arith);
          })
    ]

-- the row that a report gives, with the count of the row that is like it
told_so : (x : Row) (run : ℕ) (report : PartReport) → Same x (row_of run report) → (same_key x.0 report.report.key ≡ true) × (x.1 ≡ record (row_of x.1.run report).1 { count = x.1.count })
unfolding uncounted
told_so x run report same =
    let number : run ≡ x.1.run = sym (ap (λ (r : RaceRow). r.run) same.told) in (
      same.key,
      ap (λ (r : RaceRow). record r { count = x.1.count }) same.told ∙ ap (λ (n : ℕ). record (row_of n report).1 { count = x.1.count }) number,
    )

same_as : (row r s : Row) → r ≡ s → Same row r → Same row s
same_as row r s is same = subst (λ (x : Row). Same row x) is same

run_of_same : (x : Row) (n : ℕ) (report : PartReport) → Same x (row_of n report) → x.1.run ≡ n
unfolding uncounted
run_of_same x n report same = ap (λ (r : RaceRow). r.run) same.told

pub rows_told : RowsAreTold
rows_told hunt hunted place row is there =
    let runs = is.so_far.runs in
    let table = ap (λ (h : Hunted). h.table) is.so_far.seen ∙ table_seen hunt.first runs in
    let among = of_rows (rows_from hunt.first runs) row place (ap (λ (rs : List Row). slice_get rs place) (sym table) ∙ there) in
    let from = of_runs hunt.first runs among.row among.place among.there in
    let number = hunt.first + from.place in
    let same = same_as row among.row (row_of number from.report) from.is among.same in
    let told = told_so row number from.report same in
    let run : number ≡ row.1.run = sym (run_of_same row number from.report same) in
    record {
      kept = from.kept;
      of_run = subst (λ (n : ℕ). IsOfRun hunt n from.kept) run (is.so_far.are_runs.each from.place from.kept from.there);
      at = from.at;
      report = from.report;
      among = from.among;
      key_is = told.0;
      row_is = told.1;
    }
