-- The lines of a table, one by one.
use Rattle.std.proofs.Common.{◌≡◌, ℕ, ◌+◌, true, false, List, [], ◌∷◌, Some, None, Result, Ok, Err, ◌++◌, refl, sym, subst, ap, ◌∙◌}
use Rattle.std.specs.Prelude.{◌==◌, drop, length, slice_get}
use Rattle.rv_collide.specs.ScheduleRead.{is_over}
use Rattle.std.specs.Prelude.{IfOk, IfErr, OnOk}
use Rattle.std.specs.Result.{result_and}
use Rattle.std.proofs.lemmas.Bool.{or_parts}
use Rattle.std.proofs.lemmas.List.{drop-drop}
use Rattle.rv_text.specs.Pieces.{pieces_of}
use Rattle.rv_races.specs.declared.classes.RaceClass.{RaceClass}
use Rattle.rv_tables.specs.HuntRead.{IsTold, class_in, counts_in, cut_at, ends, pair_in, read, row_of_line, rows_in, rows_said, said_of, table_in, values_in, with_line}
use Rattle.rv_tables.specs.Rows.{added, has_race}
use Rattle.rv_tables.specs.declared.fault.ReadFault.{ReadFault}
use Rattle.rv_tables.specs.declared.fault.ReadFault.TheVariants.{Malformed, NoMemory}
use Rattle.rv_tables.specs.declared.line.Counts.{Counts}
use Rattle.rv_tables.specs.declared.line.Values.{Values}
use Rattle.rv_report.specs.Races.{same_key}
use Rattle.rv_tables.specs.declared.fault.TableFault.{TableFault}
use Rattle.rv_tables.specs.declared.fault.TableKind.{TableKind}
use Rattle.rv_tables.specs.declared.fault.TableKind.TheVariants.{End}
use Rattle.rv_tables.specs.declared.format.TableFormat.{TableFormat}
use Rattle.rv_tables.specs.declared.row.RaceRow.{RaceRow}
use Rattle.rv_report.specs.declared.key.Key.{Key}

abbrev pub Lines : Type 0
Lines = List (List ℕ)

-- the first of a list, and the others
pub first_and_others : (xs others : Lines) (x : List ℕ) → Some x ≡ slice_get xs 0 → others ≡ drop 1 xs → xs ≡ x ∷ others
first_and_others [] others x first rest = cc
first_and_others (y ∷ ys) others x first rest = rw (rest, some_same x y first) refl
  where
    some_same : (a b : List ℕ) → Some a ≡ Some b → a ≡ b
    some_same a b is = cc

pub none_left : (xs : Lines) → None ≡ slice_get xs 0 → xs ≡ []
none_left [] first = refl
none_left (y ∷ ys) first = cc

pub rows_next : (format : TableFormat) (before after : List (Key × RaceRow)) (line next : List ℕ) (lines : Lines) → ends format line ≡ false → with_line format before line ≡ Ok after → rows_in format before (line ∷ next ∷ lines) ≡ rows_in format after (next ∷ lines)
unfolding rows_in
rows_next format before after line next lines goes is = rw (goes, is) refl

pub rows_refused : (format : TableFormat) (before : List (Key × RaceRow)) (line next : List ℕ) (lines : Lines) (fault : TableFault) → ends format line ≡ false → with_line format before line ≡ Err fault → rows_in format before (line ∷ next ∷ lines) ≡ Err fault
unfolding rows_in
rows_refused format before line next lines fault goes is = rw (goes, is) refl

pub rows_end : (format : TableFormat) (before : List (Key × RaceRow)) (line next : List ℕ) (lines : Lines) → ends format line ≡ true → is_over (next ∷ lines) ≡ true → rows_in format before (line ∷ next ∷ lines) ≡ Ok before
unfolding rows_in
rows_end format before line next lines stops over = rw (stops, over) refl

pub rows_after_end : (format : TableFormat) (before : List (Key × RaceRow)) (line next : List ℕ) (lines : Lines) → ends format line ≡ true → is_over (next ∷ lines) ≡ false → rows_in format before (line ∷ next ∷ lines) ≡ Err (record { line = length before + 3; kind = End })
unfolding rows_in
rows_after_end format before line next lines stops over = rw (stops, over) refl

pub rows_cut : (format : TableFormat) (before : List (Key × RaceRow)) (cut : List ℕ) → rows_in format before (cut ∷ []) ≡ cut_at format before cut
unfolding rows_in
rows_cut format before cut = refl

-- ---- a table

pub table_refused : (format : TableFormat) (lines : Lines) (kind : TableKind) → rows_said lines ≡ Err kind → table_in format lines ≡ Err (record { line = 1; kind = kind })
unfolding table_in
table_refused format lines kind is = rw is refl

pub table_rows_refused : (format : TableFormat) (lines : Lines) (said : ℕ) (fault : TableFault) → rows_said lines ≡ Ok said → rows_in format [] (drop 1 lines) ≡ Err fault → table_in format lines ≡ Err fault
unfolding table_in
table_rows_refused format lines said fault is rows = rw (is, rows) refl

pub table_read : (format : TableFormat) (lines : Lines) (said : ℕ) (rows : List (Key × RaceRow)) → rows_said lines ≡ Ok said → rows_in format [] (drop 1 lines) ≡ Ok rows → (length rows == said) ≡ true → table_in format lines ≡ Ok rows
unfolding table_in
table_read format lines said rows is read same = rw (is, read, same) refl

pub table_other : (format : TableFormat) (lines : Lines) (said : ℕ) (rows : List (Key × RaceRow)) → rows_said lines ≡ Ok said → rows_in format [] (drop 1 lines) ≡ Ok rows → (length rows == said) ≡ false → table_in format lines ≡ Err (record { line = length rows + 2; kind = End })
unfolding table_in
table_other format lines said rows is read other = rw (is, read, other) refl

-- ---- what was told

pub told_next : (format : TableFormat) (before : List (Key × RaceRow)) (line next : List ℕ) (lines : Lines) (fault : ReadFault) → ends format line ≡ false → IsTold (with_line format before line) fault → IsTold (rows_in format before (line ∷ next ∷ lines)) fault
told_next format before line next lines (Malformed fault) goes told = rows_refused format before line next lines fault goes told
told_next format before line next lines NoMemory goes told = tt

pub told_rows : (format : TableFormat) (lines : Lines) (said : ℕ) (fault : ReadFault) → rows_said lines ≡ Ok said → IsTold (rows_in format [] (drop 1 lines)) fault → IsTold (table_in format lines) fault
told_rows format lines said (Malformed fault) is told = table_rows_refused format lines said fault is told
told_rows format lines said NoMemory is told = tt

pub told_of : (said other : Result (List (Key × RaceRow)) TableFault) (fault : ReadFault) → said ≡ other → IsTold other fault → IsTold said fault
told_of said other fault is told = subst (λ (s : Result (List (Key × RaceRow)) TableFault). IsTold s fault) (sym is) told

-- ---- the row of a line

pub added_new : (es : List (Key × RaceRow)) (row : Key × RaceRow) → has_race row.0 es ≡ false → added es row ≡ es ++ row ∷ []
added_new [] row none = refl
added_new (e ∷ es) row none =
    let both = or_parts (same_key row.0 e.0) (has_race row.0 es) none in
    rw both.0 (ap (λ (rows : List (Key × RaceRow)). e ∷ rows) (added_new es row both.1))

pub with_line_is : (format : TableFormat) (before after : List (Key × RaceRow)) (line : List ℕ) (row : Key × RaceRow) → row_of_line format line ≡ Ok row → has_race row.0 before ≡ false → after ≡ added before row → with_line format before line ≡ Ok after
unfolding with_line
with_line_is format before after line row is none after_is = rw (is, none) (ap Ok (sym (after_is ∙ added_new before row none)))

drop_more : (m n : ℕ) (xs : Lines) → drop m (drop n xs) ≡ drop (n + m) xs
drop_more m n xs = drop-drop m n xs

pub said_is : (format : TableFormat) (words two eight last : Lines) (key : Key) (counts : Counts) (values : Values) (class : RaceClass) → pair_in words ≡ Some key → two ≡ drop 2 words → counts_in two ≡ Some counts → eight ≡ drop 6 two → values_in key.second eight ≡ Some values → last ≡ drop 5 eight → class_in format key.second last ≡ Some class → said_of format words ≡ Some (record { key = key; counts = counts; values = values; class = class })
unfolding said_of
said_is format words two eight last key counts values class pair is_two numbers is_eight shown is_last classed =
    let at_two : counts_in (drop 2 words) ≡ Some counts = ap counts_in (sym is_two) ∙ numbers in
    let eight_is : eight ≡ drop 8 words = is_eight ∙ ap (drop 6) is_two ∙ drop_more 6 2 words in
    let at_eight : values_in key.second (drop 8 words) ≡ Some values = ap (values_in key.second) (sym eight_is) ∙ shown in
    let last_is : last ≡ drop 13 words = is_last ∙ ap (drop 5) eight_is ∙ drop_more 5 8 words in
    let at_last : class_in format key.second (drop 13 words) ≡ Some class = ap (class_in format key.second) (sym last_is) ∙ classed in
    rw (pair, at_two, at_eight, at_last) refl

-- ---- a text

pub read_lines : (format : TableFormat) (text : List ℕ) (lines : Lines) → lines ≡ pieces_of 10 text → read format text ≡ table_in format lines
unfolding read
read_lines format text lines is = sym (ap (table_in format) is)

pub counted_ok : {T : Type 0} (format : TableFormat) (text : List ℕ) (lines : Lines) (said : ℕ) (rows : List (Key × RaceRow)) (r : Result T ReadFault) → lines ≡ pieces_of 10 text → rows_said lines ≡ Ok said → rows_in format [] (drop 1 lines) ≡ Ok rows
    → OnOk r ((length rows == said) ≡ true) → OnOk r (read format text ≡ Ok rows)
counted_ok format text lines said rows (Ok done) is front read_rows count =
    read_lines format text lines is ∙ table_read format lines said rows front read_rows count
counted_ok format text lines said rows (Err fault) is front read_rows count = tt

pub counted_err : {T : Type 0} (format : TableFormat) (text : List ℕ) (lines : Lines) (said : ℕ) (rows : List (Key × RaceRow)) (r : Result T ReadFault) → lines ≡ pieces_of 10 text → rows_said lines ≡ Ok said → rows_in format [] (drop 1 lines) ≡ Ok rows
    → IfErr r (λ fault. (length rows == said) ≡ false) → IfErr r (λ fault. fault ≡ Malformed (record { line = length rows + 2; kind = End })) → IfErr r (IsTold (read format text))
counted_err format text lines said rows (Ok done) is front read_rows other fault_is = tt
counted_err format text lines said rows (Err fault) is front read_rows other fault_is =
    subst (IsTold (read format text)) (sym fault_is) (read_lines format text lines is ∙ table_other format lines said rows front read_rows other)

-- the rows that were read, where all went well
pub read_all : {T : Type 0} (r : Result T ReadFault) (rows : List (Key × RaceRow)) (told : Result (List (Key × RaceRow)) TableFault) → OnOk r (told ≡ Ok rows) → IfOk (result_and r (Ok rows)) (λ all. told ≡ Ok all)
read_all (Ok done) rows told is = is
read_all (Err fault) rows told is = tt
