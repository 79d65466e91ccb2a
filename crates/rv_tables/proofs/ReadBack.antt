-- A table that is written is read back, line by line.
use Rattle.std.proofs.Common.{◌≡◌, ℕ, ◌-◌, ◌^◌, ◌<◌, ◌≤◌, Bool, true, false, not, ◌==◌, nat_lt, nat_le, Option, Some, None, Result, Ok, All, List, [], ◌∷◌, ◌++◌, map, length, codes, refl, ap, ◌∙◌, sym, arith, append_assoc, append-nil}
use Rattle.std.specs.Prelude.{IfSome}
use Rattle.std.specs.List.{list_any}
use Rattle.std.specs.Str.{bytes_eq}
use Rattle.std.specs.Fmt.{decimal}
use Rattle.std.proofs.lemmas.Bool.{and_parts, or_from, or_parts}
use Rattle.std.proofs.lemmas.Bool.Decides.{nat_tests}
use Rattle.std.proofs.lemmas.List.{length-map}
use Rattle.std.proofs.lemmas.List.Elements.{All-head, All-tail}
use Rattle.std.proofs.lemmas.List.Folds.{list_any-append}
use Rattle.std.proofs.lemmas.Slice.Eq.{bytes_eq-Decides}
use Rattle.rv_text.specs.Decimal.{DecimalIsReadBack, DecimalLacksSeparators}
use Rattle.rv_text.specs.Hexadecimal.{word_digits, WordIsReadBack, WordLacksSeparators}
use Rattle.rv_text.specs.Lines.{has_line_feed, text_of_lines}
use Rattle.rv_text.specs.Pieces.{pieces_of, Lacks, PiecesAreCut}
use Rattle.rv_collide.specs.ScheduleRead.{address_of, words_of}
use Rattle.rv_races.specs.Classes.{class_word}
use Rattle.rv_tables.proofs.ReadLemmas.{added_new, read_lines, rows_cut, rows_next, said_is, table_read, with_line_is}
use Rattle.rv_tables.specs.HuntRead.{between, class_in, class_named, counts_in, pair_in, races_of_line, row_of_line, row_within, rows_in, rows_said, said_of, second_of, sized, values_in, with_line}
use Rattle.rv_tables.specs.HuntReadLaws.{AreRows, IsRow, TablesAreReadBack, are_apart, said}
use Rattle.rv_tables.specs.HuntText.{row_line, table_text, verdict_word}
use Rattle.rv_tables.specs.Rows.{added, has_race}
use Rattle.rv_tables.specs.declared.fault.TableFault.{TableFault}
use Rattle.rv_tables.specs.declared.format.TableFormat.TheVariants.{Hunt}
use Rattle.rv_tables.specs.declared.line.Said.{Said}
use Rattle.rv_tables.specs.declared.row.RaceRow.{RaceRow}
use Rattle.rv_races.specs.declared.classes.RaceClass.{RaceClass}
use Rattle.rv_races.specs.declared.classes.RaceClass.TheVariants.{Kept, Counter, Unwatched, Flag, Ordered, Atomic, Named}
use Rattle.rv_report.specs.TableText.{address_text, races_line}
use Rattle.rv_report.specs.declared.key.Key.{Key}

-- ---- words

class_lacks_blank : (class : RaceClass) → Lacks 32 (class_word class)
class_lacks_blank Kept = refl
class_lacks_blank Counter = refl
class_lacks_blank Unwatched = refl
class_lacks_blank Flag = refl
class_lacks_blank Ordered = refl
class_lacks_blank Atomic = refl
class_lacks_blank Named = refl

class_lacks_lf : (class : RaceClass) → Lacks 10 (class_word class)
class_lacks_lf Kept = refl
class_lacks_lf Counter = refl
class_lacks_lf Unwatched = refl
class_lacks_lf Flag = refl
class_lacks_lf Ordered = refl
class_lacks_lf Atomic = refl
class_lacks_lf Named = refl

class_back : (class : RaceClass) → class_named (class_word class) ≡ Some class
class_back Kept = refl
class_back Counter = refl
class_back Unwatched = refl
class_back Flag = refl
class_back Ordered = refl
class_back Atomic = refl
class_back Named = refl

verdict_lacks_blank : (second : Option ℕ) → Lacks 32 (verdict_word second)
verdict_lacks_blank None = refl
verdict_lacks_blank (Some address) = refl

verdict_lacks_lf : (second : Option ℕ) → Lacks 10 (verdict_word second)
verdict_lacks_lf None = refl
verdict_lacks_lf (Some address) = refl

verdict_same : (second : Option ℕ) → bytes_eq (verdict_word second) (verdict_word second) ≡ true
verdict_same None = refl
verdict_same (Some address) = refl

lacks_append : (byte : ℕ) (xs ys : List ℕ) → Lacks byte xs → Lacks byte ys → Lacks byte (xs ++ ys)
lacks_append byte xs ys one other = list_any-append (λ b. b == byte) xs ys ∙ or_from _ _ one other

first_differs : (a b : ℕ) (xs ys : List ℕ) → (a == b) ≡ false → bytes_eq (a ∷ xs) (b ∷ ys) ≡ false
first_differs a b xs ys other = rw other refl

-- texts of lines are cut into them, with nothing after the last LF
text_pieces : PiecesAreCut → (lines : List (List ℕ)) → list_any has_line_feed lines ≡ false → pieces_of 10 (text_of_lines lines) ≡ lines ++ [] ∷ []
text_pieces cut [] lack = refl
text_pieces cut (line ∷ lines) lack =
    let parts = or_parts (has_line_feed line) (list_any has_line_feed lines) lack in
    ap (pieces_of 10) (append_assoc line (10 ∷ []) (text_of_lines lines)) ∙ (cut 10 line (text_of_lines lines) parts.0).0 ∙ ap (λ more. line ∷ more) (text_pieces cut lines parts.1)

sized_is : (n : ℕ) → n < 2 ^ 64 → sized n ≡ Some n
sized_is n small =
    let fits : nat_le n (2 ^ 64 - 1) ≡ true = grind (arith, nat_tests) in
    rw fits refl

between_is : (least bits n : ℕ) → least ≤ n → n < 2 ^ bits → between least bits (Some n) ≡ Some n
between_is least bits n from to =
    let a : nat_le least n ≡ true = grind (arith, nat_tests) in
    let b : nat_lt n (2 ^ bits) ≡ true = grind (arith, nat_tests) in
    rw (a, b) refl

-- the digits of an address are no `-`
not_dash : (text : List ℕ) → Lacks 45 text → bytes_eq text (codes "-") ≡ false
not_dash [] lacks = refl
not_dash (x ∷ xs) lacks = let parts = or_parts (x == 45) (list_any (λ b. b == 45) xs) lacks in first_differs x 45 xs [] parts.0

-- ---- the line of a row, its pieces one after another

abbrev from_values : Key × RaceRow → List ℕ
from_values row = word_digits row.1.old ++ (codes " new " ++ (word_digits row.1.new ++ (codes " " ++ class_word row.1.class)))

abbrev from_verdict : Key × RaceRow → List ℕ
from_verdict row = verdict_word row.0.second ++ (codes " old " ++ from_values row)

abbrev from_entry : Key × RaceRow → List ℕ
from_entry row = decimal row.1.entry ++ (codes " " ++ from_verdict row)

abbrev from_run : Key × RaceRow → List ℕ
from_run row = decimal row.1.run ++ (codes " entry " ++ from_entry row)

abbrev from_count : Key × RaceRow → List ℕ
from_count row = decimal row.1.count ++ (codes " run " ++ from_run row)

abbrev from_second : Key × RaceRow → List ℕ
from_second row = address_text row.0.second ++ (codes " count " ++ from_count row)

abbrev from_first : Key × RaceRow → List ℕ
from_first row = word_digits row.0.first ++ (codes " " ++ from_second row)

line_is : (row : Key × RaceRow) → row_line row ≡ from_first row
unfolding row_line
line_is row = simp append_assoc

abbrev words_from_count : Key × RaceRow → List (List ℕ)
words_from_count row =
    codes "count" ∷ decimal row.1.count ∷ codes "run" ∷ decimal row.1.run ∷ codes "entry" ∷ decimal row.1.entry ∷ verdict_word row.0.second ∷ codes "old" ∷ word_digits row.1.old ∷ codes "new" ∷ word_digits row.1.new ∷ class_word row.1.class ∷ []

abbrev said_row : Key × RaceRow → Said
said_row row = record { key = row.0; counts = record { count = Some row.1.count; run = Some row.1.run; entry = Some row.1.entry }; values = record { old = row.1.old; new = row.1.new }; class = row.1.class }

abbrev ok_said : List (Key × RaceRow) → Result (List (Key × RaceRow)) TableFault
ok_said rows = Ok (map said rows)

module _ (decimals : DecimalIsReadBack) (decimal_lacks : DecimalLacksSeparators) (words_back : WordIsReadBack) (word_lacks : WordLacksSeparators) (cut : PiecesAreCut) where
  number_lacks : (byte n : ℕ) → byte < 48 → n < 2 ^ 64 → Lacks byte (decimal n)
  number_lacks byte n low small = decimal_lacks byte low (decimal n) n (decimals n small)

  address_lacks : (byte a : ℕ) → byte < 48 → a < 2 ^ 32 → Lacks byte (word_digits a)
  address_lacks byte a low small = word_lacks byte low (word_digits a) a (words_back a small)

  second_lacks : (byte : ℕ) (second : Option ℕ) → byte < 45 → IfSome second (λ a. a < 2 ^ 32) → Lacks byte (address_text second)
  second_lacks byte None low small =
      let other : (45 == byte) ≡ false = grind (arith, nat_tests) in
      rw other refl
  second_lacks byte (Some a) low small = address_lacks byte a (omega (arith, low)) small

  address_back : (a : ℕ) → a < 2 ^ 32 → address_of (word_digits a) ≡ Some a
  address_back a small =
      let same : bytes_eq (word_digits a) (word_digits a) ≡ true = (bytes_eq-Decides (word_digits a) (word_digits a)).1 refl in
      rw (words_back a small, same) refl

  second_back : (second : Option ℕ) → IfSome second (λ a. a < 2 ^ 32) → second_of (address_text second) ≡ Some second
  second_back None small = refl
  second_back (Some a) small =
      let other = not_dash (word_digits a) (address_lacks 45 a (omega arith) small) in
      rw (other, address_back a small) refl

  -- the words of a row's line
  row_words : (row : Key × RaceRow) → IsRow row → words_of (row_line row) ≡ word_digits row.0.first ∷ address_text row.0.second ∷ words_from_count row
  row_words row is =
      let first = (cut 32 (word_digits row.0.first) (from_second row) (address_lacks 32 row.0.first (omega arith) is.first)).0 in
      let second = (cut 32 (address_text row.0.second) (codes "count " ++ from_count row) (second_lacks 32 row.0.second (omega arith) is.second)).0 in
      let count = (cut 32 (decimal row.1.count) (codes "run " ++ from_run row) (number_lacks 32 row.1.count (omega arith) is.count)).0 in
      let run = (cut 32 (decimal row.1.run) (codes "entry " ++ from_entry row) (number_lacks 32 row.1.run (omega arith) (omega (arith, is.run)))).0 in
      let entry = (cut 32 (decimal row.1.entry) (from_verdict row) (number_lacks 32 row.1.entry (omega arith) (omega (arith, is.entry)))).0 in
      let verdict = (cut 32 (verdict_word row.0.second) (codes "old " ++ from_values row) (verdict_lacks_blank row.0.second)).0 in
      let old = (cut 32 (word_digits row.1.old) (codes "new " ++ (word_digits row.1.new ++ (codes " " ++ class_word row.1.class))) (address_lacks 32 row.1.old (omega arith) is.old)).0 in
      let later = (cut 32 (word_digits row.1.new) (class_word row.1.class) (address_lacks 32 row.1.new (omega arith) is.after)).0 in
      let class = (cut 32 (class_word row.1.class) [] (class_lacks_blank row.1.class)).1 in
      ap words_of (line_is row) ∙ rw (first, second, count, run, entry, verdict, old, later, class) refl

  pair_back : (row : Key × RaceRow) → IsRow row → pair_in (word_digits row.0.first ∷ address_text row.0.second ∷ words_from_count row) ≡ Some row.0
  pair_back row is = rw (address_back row.0.first is.first, second_back row.0.second is.second) refl

  counts_back : (row : Key × RaceRow) → IsRow row → counts_in (words_from_count row) ≡ Some (record { count = Some row.1.count; run = Some row.1.run; entry = Some row.1.entry })
  unfolding counts_in
  counts_back row is =
      let run : row.1.run < 2 ^ 64 = omega (arith, is.run) in
      let entry : row.1.entry < 2 ^ 64 = omega (arith, is.entry) in
      rw (decimals row.1.count is.count, decimals row.1.run run, decimals row.1.entry entry, sized_is row.1.count is.count, sized_is row.1.run run, sized_is row.1.entry entry) refl

  values_back : (row : Key × RaceRow) → IsRow row → values_in row.0.second (verdict_word row.0.second ∷ codes "old" ∷ word_digits row.1.old ∷ codes "new" ∷ word_digits row.1.new ∷ class_word row.1.class ∷ []) ≡ Some (record { old = row.1.old; new = row.1.new })
  values_back row is = rw (verdict_same row.0.second, address_back row.1.old is.old, address_back row.1.new is.after) refl

  class_read : (row : Key × RaceRow) → IsRow row → class_in Hunt row.0.second (class_word row.1.class ∷ []) ≡ Some row.1.class
  class_read row is = rw (class_back row.1.class, is.class) refl

  row_said : (row : Key × RaceRow) → IsRow row → said_of Hunt (word_digits row.0.first ∷ address_text row.0.second ∷ words_from_count row) ≡ Some (said_row row)
  row_said row is =
      said_is Hunt (word_digits row.0.first ∷ address_text row.0.second ∷ words_from_count row) (words_from_count row)
      (verdict_word row.0.second ∷ codes "old" ∷ word_digits row.1.old ∷ codes "new" ∷ word_digits row.1.new ∷ class_word row.1.class ∷ [])
      (class_word row.1.class ∷ []) row.0 _ _ row.1.class (pair_back row is) refl (counts_back row is) refl (values_back row is) refl (class_read row is)

  row_fits : (row : Key × RaceRow) → IsRow row → row_within (said_row row) ≡ Some (said row)
  unfolding row_within
  row_fits row is =
      rw (between_is 1 64 row.1.count is.some is.count, between_is 0 32 row.1.run (omega arith) is.run, between_is 0 32 row.1.entry (omega arith) is.entry, is.pair) refl

  row_back : (row : Key × RaceRow) → IsRow row → row_of_line Hunt (row_line row) ≡ Ok (said row)
  unfolding row_of_line
  row_back row is = rw (row_words row is, row_said row is, row_fits row is) refl

  -- no LF stands in a line
  row_lacks : (row : Key × RaceRow) → IsRow row → has_line_feed (row_line row) ≡ false
  row_lacks row is =
      let class = lacks_append 10 (codes " ") (class_word row.1.class) refl (class_lacks_lf row.1.class) in
      let later = lacks_append 10 (codes " new ") (word_digits row.1.new ++ (codes " " ++ class_word row.1.class)) refl (lacks_append 10 (word_digits row.1.new) (codes " " ++ class_word row.1.class) (address_lacks 10 row.1.new (omega arith) is.after) class) in
      let values : Lacks 10 (from_values row) = lacks_append 10 (word_digits row.1.old) _ (address_lacks 10 row.1.old (omega arith) is.old) later in
      let verdict : Lacks 10 (from_verdict row) = lacks_append 10 (verdict_word row.0.second) _ (verdict_lacks_lf row.0.second) (lacks_append 10 (codes " old ") (from_values row) refl values) in
      let entry : Lacks 10 (from_entry row) = lacks_append 10 (decimal row.1.entry) _ (number_lacks 10 row.1.entry (omega arith) (omega (arith, is.entry))) (lacks_append 10 (codes " ") (from_verdict row) refl verdict) in
      let run : Lacks 10 (from_run row) = lacks_append 10 (decimal row.1.run) _ (number_lacks 10 row.1.run (omega arith) (omega (arith, is.run))) (lacks_append 10 (codes " entry ") (from_entry row) refl entry) in
      let count : Lacks 10 (from_count row) = lacks_append 10 (decimal row.1.count) _ (number_lacks 10 row.1.count (omega arith) is.count) (lacks_append 10 (codes " run ") (from_run row) refl run) in
      let second : Lacks 10 (from_second row) = lacks_append 10 (address_text row.0.second) _ (second_lacks 10 row.0.second (omega arith) is.second) (lacks_append 10 (codes " count ") (from_count row) refl count) in
      ap has_line_feed (line_is row) ∙ lacks_append 10 (word_digits row.0.first) _ (address_lacks 10 row.0.first (omega arith) is.first) (lacks_append 10 (codes " ") (from_second row) refl second)

  rows_lack : (rows : List (Key × RaceRow)) → All IsRow rows → list_any has_line_feed (map row_line rows) ≡ false
  rows_lack [] each = refl
  rows_lack (row ∷ rows) each = or_from _ _ (row_lacks row (All-head IsRow row rows each)) (rows_lack rows (All-tail IsRow row rows each))

  -- ---- the rows

  abbrev lines_after : List (Key × RaceRow) → List (List ℕ)
  lines_after rows = map row_line rows ++ [] ∷ []

  same_races : (key : Key) (rows : List (Key × RaceRow)) → has_race key (map said rows) ≡ has_race key rows
  same_races key [] = refl
  same_races key (row ∷ rows) = rw (same_races key rows) refl

  one_more : (rows before after : List (Key × RaceRow)) (line : List ℕ) → with_line Hunt before line ≡ Ok after → rows_in Hunt before (line ∷ lines_after rows) ≡ rows_in Hunt after (lines_after rows)
  one_more [] before after line is = rows_next Hunt before after line [] [] refl is
  one_more (row ∷ rows) before after line is = rows_next Hunt before after line (row_line row) (lines_after rows) refl is

  said_more : (before : List (Key × RaceRow)) (row : Key × RaceRow) → map said (before ++ row ∷ []) ≡ map said before ++ said row ∷ []
  said_more [] row = refl
  said_more (e ∷ es) row = ap (λ (rows : List (Key × RaceRow)). said e ∷ rows) (said_more es row)

  not_true : (b : Bool) → not b ≡ true → b ≡ false
  not_true true h = sym h
  not_true false h = refl

  rows_back : (before rows : List (Key × RaceRow)) → All IsRow rows → are_apart before rows ≡ true → rows_in Hunt (map said before) (lines_after rows) ≡ Ok (map said (before ++ rows))
  rows_back before [] each apart = rows_cut Hunt (map said before) [] ∙ ap ok_said (sym (append-nil before))
  rows_back before (row ∷ rows) each apart =
      let is = All-head IsRow row rows each in
      let parts = and_parts (not (has_race row.0 before)) (are_apart (before ++ row ∷ []) rows) apart in
      let none : has_race row.0 (map said before) ≡ false = same_races row.0 before ∙ not_true (has_race row.0 before) parts.0 in
      let more : map said (before ++ row ∷ []) ≡ added (map said before) (said row) = said_more before row ∙ sym (added_new (map said before) (said row) none) in
      let whole : (before ++ row ∷ []) ++ rows ≡ before ++ row ∷ rows = append_assoc before (row ∷ []) rows in
      one_more rows (map said before) (map said (before ++ row ∷ [])) (row_line row) (with_line_is Hunt (map said before) (map said (before ++ row ∷ [])) (row_line row) (said row) (row_back row is) none more)
      ∙ rows_back (before ++ row ∷ []) rows (All-tail IsRow row rows each) parts.1
      ∙ ap ok_said whole

  -- ---- the table

  said_front : (rows : List (Key × RaceRow)) (line : List ℕ) → rows_said (line ∷ lines_after rows) ≡ races_of_line line
  said_front [] line = refl
  said_front (row ∷ rows) line = refl

  races_back : (n : ℕ) → n < 2 ^ 64 → races_of_line (races_line n) ≡ Ok n
  unfolding races_of_line
  races_back n small = rw ((cut 32 (decimal n) [] (number_lacks 32 n (omega arith) small)).1, decimals n small, sized_is n small) refl

  counted : (rows : List (Key × RaceRow)) → (length (map said rows) == length rows) ≡ true
  counted rows = let same : length (map said rows) ≡ length rows = length-map rows said in grind (arith, nat_tests, same)

  front_lacks : (rows : List (Key × RaceRow)) → AreRows rows → list_any has_line_feed (races_line (length rows) ∷ map row_line rows) ≡ false
  front_lacks rows are =
      or_from _ _ (lacks_append 10 (codes "races ") (decimal (length rows)) refl (number_lacks 10 (length rows) (omega arith) are.few)) (rows_lack rows are.each)

  pub tables_are_read_back : TablesAreReadBack
  unfolding table_text
  tables_are_read_back rows are =
      let pieces = text_pieces cut (races_line (length rows) ∷ map row_line rows) (front_lacks rows are) in
      let front = said_front rows (races_line (length rows)) ∙ races_back (length rows) are.few in
      read_lines Hunt (text_of_lines (races_line (length rows) ∷ map row_line rows)) (races_line (length rows) ∷ lines_after rows) (sym pieces)
      ∙ table_read Hunt (races_line (length rows) ∷ lines_after rows) (length rows) (map said rows) front (rows_back [] rows are.each are.apart) (counted rows)
