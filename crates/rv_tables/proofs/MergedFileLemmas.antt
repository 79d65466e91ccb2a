-- Files that are merged one after another.
use Rattle.std.proofs.Common.{◌≡◌, ℕ, ◌+◌, ◌<◌, Bool, true, false, List, [], ◌∷◌, ◌++◌, Option, Some, None, Result, Ok, Err, zero, suc, refl, sym, ap, subst, ◌∙◌, arith}
use Rattle.std.specs.Prelude.{◌||◌, IfSome, drop, length, option_and_then, option_map, slice_get, slice_set}
use Rattle.std.specs.List.{list_any}
use Rattle.std.proofs.lemmas.List.{append_assoc, append-nil}
use Rattle.rv_memory.specs.Chain.{◌>>=◌}
use Rattle.rv_memory.specs.Flagged.{device, has_failed}
use Rattle.rv_memory.specs.declared.flagged.Flagged.{Flagged}
use Rattle.rv_faults.specs.declared.fault.Fault.TheVariants as fault
use Rattle.rv_tables.specs.merge.FileFault.{UnlessDevice}
use Rattle.rv_tables.specs.merge.Merge.{Files, Merge, IsTold, Table, bytes_of, expected_in, given_as, in_file, merge_of, tables_from, unexpected_in}
use Rattle.rv_tables.specs.merge.TableFiles.{hunt_table}
use Rattle.rv_tables.specs.declared.merge.fault.FileFault.{FileFault}
use Rattle.rv_tables.specs.declared.merge.fault.FileFault.TheVariants.{Plain}
use Rattle.rv_tables.specs.declared.merge.MergeFault.{MergeFault}
use Rattle.rv_tables.specs.declared.merge.whole.GivenTable.{GivenTable}
use Rattle.rv_tables.specs.declared.merge.whole.Whole.{Whole}
use Rattle.rv_tables.specs.declared.origin_line.ReadTable.{ReadTable}
use Rattle.rv_tables.specs.internal.Adding.{whole_in, with_file, with_files}
use Rattle.rv_tables.specs.merge.Whole.{whole_of}

-- ---- what is told of a file is told of those that more files follow

unless_device : (given : FileFault) (P Q : Type 0) → (P → Q) → UnlessDevice given P → UnlessDevice given Q
unless_device (Plain fault.Read) P Q next said = tt
unless_device (Plain fault.Write) P Q next said = tt
unless_device (Plain fault.NoMemory) P Q next said = tt
unless_device given P Q next said = next said

pub told_of : {A B : Type 0} (r : Result A MergeFault) (s : Result B MergeFault) (given : MergeFault) → (r ≡ Err given → s ≡ Err given) → IsTold r given → IsTold s given
told_of r s given next told = unless_device given.fault (r ≡ Err given) (s ≡ Err given) next told

err_then : {A B : Type 0} (r : Result A MergeFault) (next : A → Result B MergeFault) (given : MergeFault) → r ≡ Err given → (r >>= next) ≡ Err given
err_then (Ok a) next given is = cc
err_then (Err e) next given is = cc

-- ---- tables that are read one by one are those of all files

abbrev Tables : Type 0
Tables = List GivenTable

append_next : (before : Tables) (table : GivenTable) (r : Result Tables MergeFault) → (r >>= λ tables. Ok ((before ++ table ∷ []) ++ tables)) ≡ ((r >>= λ tables. Ok (table ∷ tables)) >>= λ tables. Ok (before ++ tables))
append_next before table (Ok tables) = ap (λ (ts : Tables). Ok ts) (append_assoc before (table ∷ []) tables)
append_next before table (Err given) = refl

added_next : (number : ℕ) (before : Tables) (later : List (List ℕ)) (r : Result ReadTable MergeFault) → ((tables : Tables) → with_files (number + 1) tables later ≡ (tables_from (number + 1) later >>= λ others. Ok (tables ++ others)))
    → ((r >>= λ table. Ok (before ++ given_as number table ∷ [])) >>= λ tables. with_files (number + 1) tables later) ≡ ((r >>= λ table. tables_from (number + 1) later >>= λ tables. Ok (given_as number table ∷ tables)) >>= λ tables. Ok (before ++ tables))
added_next number before later (Ok table) others = others (before ++ given_as number table ∷ []) ∙ append_next before (given_as number table) (tables_from (number + 1) later)
added_next number before later (Err given) others = refl

pub added_are : (number : ℕ) (before : Tables) (files : List (List ℕ)) → with_files number before files ≡ (tables_from number files >>= λ tables. Ok (before ++ tables))
unfolding with_files with_file tables_from
added_are number before [] = ap (λ (ts : Tables). Ok ts) (sym (append-nil before))
added_are number before (bytes ∷ later) = added_next number before later (in_file number (hunt_table bytes)) (λ tables. added_are (number + 1) tables later)

pub files_next : (number : ℕ) (before after : Tables) (bytes : List ℕ) (later : List (List ℕ)) → with_file number before bytes ≡ Ok after → with_files number before (bytes ∷ later) ≡ with_files (number + 1) after later
unfolding with_files
files_next number before after bytes later is = ap (λ r. r >>= λ rows. with_files (number + 1) rows later) is

pub files_end : (number : ℕ) (before : Tables) → with_files number before [] ≡ Ok before
unfolding with_files
files_end number before = refl

pub files_told : (number : ℕ) (before : Tables) (bytes : List ℕ) (later : List (List ℕ)) (given : MergeFault) → with_file number before bytes ≡ Err given → with_files number before (bytes ∷ later) ≡ Err given
unfolding with_files
files_told number before bytes later given is = err_then (with_file number before bytes) (λ rows. with_files (number + 1) rows later) given is

-- ---- a list of readers

or_moved : (a b now : Bool) → ((a || now) || b) ≡ ((a || b) || now)
or_moved true b now = refl
or_moved false true true = refl
or_moved false true false = refl
or_moved false false true = refl
or_moved false false false = refl

or_within : (a b now : Bool) → (a || (b || now)) ≡ ((a || b) || now)
or_within true b now = refl
or_within false b now = refl

some_same : {A : Type 0} (a b : A) → Some a ≡ Some b → a ≡ b
some_same a b is = cc

-- the readers after one of them was read on
pub failed_set : {R : Type 0} (readers : List (Flagged R)) (place : ℕ) (before after : Flagged R) (now : Bool) → slice_get readers place ≡ Some before → has_failed after ≡ (has_failed before || now) → list_any has_failed (slice_set readers place after) ≡ (list_any has_failed readers || now)
failed_set [] place before after now at is = cc
failed_set (reader ∷ readers) zero before after now at is =
    let same : has_failed after ≡ (has_failed reader || now) = is ∙ ap (λ r. has_failed r || now) (sym (some_same reader before at)) in
    rw same (or_moved (has_failed reader) (list_any has_failed readers) now)
failed_set (reader ∷ readers) (suc place) before after now at is =
    rw (failed_set readers place before after now at is) (or_within (has_failed reader) (list_any has_failed readers) now)

-- the bytes of all readers are those of the first, and those of the others
bytes_of_parts : {R : Type 0} (remaining : R → Option (List ℕ)) (first : Option (List ℕ)) (others : Option (List (List ℕ))) (files : List (List ℕ))
    → option_and_then (λ bytes. option_map (λ later. bytes ∷ later) others) first ≡ Some files → (bytes : List ℕ) × (later : List (List ℕ)) × (first ≡ Some bytes) × (others ≡ Some later) × (files ≡ bytes ∷ later)
bytes_of_parts remaining None others files are = cc
bytes_of_parts remaining (Some bytes) None files are = cc
bytes_of_parts remaining (Some bytes) (Some later) files are = (bytes, later, refl, refl, sym (some_same (bytes ∷ later) files are))

next_is : (n : ℕ) → suc n + 1 ≡ suc (n + 1)
next_is n = omega arith

-- the bytes of a reader are those of its place
pub bytes_at : {R : Type 0} (remaining : R → Option (List ℕ)) (readers : List (Flagged R)) (place : ℕ) (reader : Flagged R) (files : List (List ℕ)) → slice_get readers place ≡ Some reader → bytes_of remaining readers ≡ Some files → (bytes : List ℕ) × (remaining (device reader) ≡ Some bytes) × (drop place files ≡ bytes ∷ drop (place + 1) files)
bytes_at remaining [] place reader files at are = cc
bytes_at remaining (first ∷ readers) zero reader files at are =
    let parts = bytes_of_parts remaining (remaining (device first)) (bytes_of remaining readers) files are in
    (parts.0, rw (sym (some_same first reader at)) parts.2, parts.4 ∙ ap (λ (later : List (List ℕ)). parts.0 ∷ later) (ap (drop 1) (sym parts.4)))
bytes_at remaining (first ∷ readers) (suc place) reader files at are =
    let parts = bytes_of_parts remaining (remaining (device first)) (bytes_of remaining readers) files are in
    let others = bytes_at remaining readers place reader parts.1 at parts.3 in
    (others.0, others.1, ap (drop (suc place)) parts.4 ∙ others.2 ∙ ap (λ (later : List (List ℕ)). others.0 ∷ later) (sym (ap (drop (suc place + 1)) parts.4 ∙ ap (λ (n : ℕ). drop n (parts.0 ∷ parts.1)) (next_is place))))

-- where all tables were read, nothing is left
pub bytes_end : {R : Type 0} (remaining : R → Option (List ℕ)) (readers : List (Flagged R)) (files : List (List ℕ)) → bytes_of remaining readers ≡ Some files → drop (length readers) files ≡ []
bytes_end remaining [] files are = rw (sym (some_same [] files are)) refl
bytes_end remaining (first ∷ readers) files are =
    let parts = bytes_of_parts remaining (remaining (device first)) (bytes_of remaining readers) files are in
    ap (drop (suc (length readers))) parts.4 ∙ bytes_end remaining readers parts.1 parts.3

pub bytes_count : {R : Type 0} (remaining : R → Option (List ℕ)) (readers : List (Flagged R)) (files : List (List ℕ)) → bytes_of remaining readers ≡ Some files → length readers ≡ length files
bytes_count remaining [] files are = rw (sym (some_same [] files are)) refl
bytes_count remaining (first ∷ readers) files are =
    let parts = bytes_of_parts remaining (remaining (device first)) (bytes_of remaining readers) files are in
    ap suc (bytes_count remaining readers parts.1 parts.3) ∙ ap length (sym parts.4)

-- ---- one table more

step_known : {R : Type 0} (remaining : R → Option (List ℕ)) (readers : List (Flagged R)) (place : ℕ) (reader : Flagged R) (rows after : Tables) (known : Option (List (List ℕ))) → bytes_of remaining readers ≡ known → slice_get readers place ≡ Some reader
    → IfSome known (λ files. with_files 0 [] files ≡ with_files place rows (drop place files)) → IfSome (remaining (device reader)) (λ bytes. with_file place rows bytes ≡ Ok after)
    → IfSome known (λ files. with_files 0 [] files ≡ with_files (place + 1) after (drop (place + 1) files))
step_known remaining readers place reader rows after None are at so_far is = tt
step_known remaining readers place reader rows after (Some files) are at so_far is =
    let found = bytes_at remaining readers place reader files at are in
    so_far ∙ ap (with_files place rows) found.2 ∙ files_next place rows after found.0 (drop (place + 1) files) (subst (λ (o : Option (List ℕ)). IfSome o (λ bytes. with_file place rows bytes ≡ Ok after)) found.1 is)

pub step : {R : Type 0} (remaining : R → Option (List ℕ)) (readers : List (Flagged R)) (place : ℕ) (reader : Flagged R) (rows after : Tables) → slice_get readers place ≡ Some reader
    → IfSome (bytes_of remaining readers) (λ files. with_files 0 [] files ≡ with_files place rows (drop place files)) → IfSome (remaining (device reader)) (λ bytes. with_file place rows bytes ≡ Ok after)
    → IfSome (bytes_of remaining readers) (λ files. with_files 0 [] files ≡ with_files (place + 1) after (drop (place + 1) files))
step remaining readers place reader rows after at so_far is = step_known remaining readers place reader rows after (bytes_of remaining readers) refl at so_far is

refused_known : {R : Type 0} (remaining : R → Option (List ℕ)) (readers : List (Flagged R)) (place : ℕ) (reader : Flagged R) (rows : Tables) (given : MergeFault) (known : Option (List (List ℕ))) → bytes_of remaining readers ≡ known → slice_get readers place ≡ Some reader
    → IfSome known (λ files. with_files 0 [] files ≡ with_files place rows (drop place files)) → IfSome (remaining (device reader)) (λ bytes. IsTold (with_file place rows bytes) given)
    → IfSome known (λ files. IsTold (with_files 0 [] files) given)
refused_known remaining readers place reader rows given None are at so_far told = tt
refused_known remaining readers place reader rows given (Some files) are at so_far told =
    let found = bytes_at remaining readers place reader files at are in
    told_of (with_file place rows found.0) (with_files 0 [] files) given
    (λ is. so_far ∙ ap (with_files place rows) found.2 ∙ files_told place rows found.0 (drop (place + 1) files) given is)
    (subst (λ (o : Option (List ℕ)). IfSome o (λ bytes. IsTold (with_file place rows bytes) given)) found.1 told)

pub refused : {R : Type 0} (remaining : R → Option (List ℕ)) (readers : List (Flagged R)) (place : ℕ) (reader : Flagged R) (rows : Tables) (given : MergeFault) → slice_get readers place ≡ Some reader
    → IfSome (bytes_of remaining readers) (λ files. with_files 0 [] files ≡ with_files place rows (drop place files)) → IfSome (remaining (device reader)) (λ bytes. IsTold (with_file place rows bytes) given)
    → IfSome (bytes_of remaining readers) (λ files. IsTold (with_files 0 [] files) given)
refused remaining readers place reader rows given at so_far told = refused_known remaining readers place reader rows given (bytes_of remaining readers) refl at so_far told

all_known : {R : Type 0} (remaining : R → Option (List ℕ)) (readers : List (Flagged R)) (place : ℕ) (rows : Tables) (known : Option (List (List ℕ))) → bytes_of remaining readers ≡ known → place ≡ length readers
    → IfSome known (λ files. with_files 0 [] files ≡ with_files place rows (drop place files)) → IfSome known (λ files. with_files 0 [] files ≡ Ok rows)
all_known remaining readers place rows None are is so_far = tt
all_known remaining readers place rows (Some files) are is so_far =
    so_far ∙ ap (with_files place rows) (ap (λ n. drop n files) is ∙ bytes_end remaining readers files are) ∙ files_end place rows

pub all_added : {R : Type 0} (remaining : R → Option (List ℕ)) (readers : List (Flagged R)) (place : ℕ) (rows : Tables) → place ≡ length readers
    → IfSome (bytes_of remaining readers) (λ files. with_files 0 [] files ≡ with_files place rows (drop place files)) → IfSome (bytes_of remaining readers) (λ files. with_files 0 [] files ≡ Ok rows)
all_added remaining readers place rows is so_far = all_known remaining readers place rows (bytes_of remaining readers) refl is so_far

pub at_start : {R : Type 0} (remaining : R → Option (List ℕ)) (readers : List (Flagged R)) → IfSome (bytes_of remaining readers) (λ files. with_files 0 [] files ≡ with_files 0 [] (drop 0 files))
at_start remaining readers = start (bytes_of remaining readers)
  where
    start : (known : Option (List (List ℕ))) → IfSome known (λ files. with_files 0 [] files ≡ with_files 0 [] (drop 0 files))
    start None = tt
    start (Some files) = refl

-- a reader behind those that were read is as it was
pub behind : {A : Type 0} (xs : List A) (place other : ℕ) (x : A) → place < other → slice_get (slice_set xs place x) other ≡ slice_get xs other
behind [] place other x below = refl
behind (y ∷ ys) zero zero x below = absurd (omega arith)
behind (y ∷ ys) zero (suc other) x below = refl
behind (y ∷ ys) (suc place) zero x below = absurd (omega arith)
behind (y ∷ ys) (suc place) (suc other) x below = behind ys place other x (omega arith)

-- ---- what the tables make

pub whole_told : (tables : Option (List (List ℕ))) (given : MergeFault) → IfSome tables (λ each. IsTold (with_files 0 [] each) given) → (gaps : Bool) → IfSome tables (λ each. IsTold (whole_in gaps each) given)
whole_told None given told gaps = tt
whole_told (Some each) given told gaps =
    told_of (with_files 0 [] each) (whole_in gaps each) given (err_then (with_files 0 [] each) (whole_of gaps) given) told

pub whole_refused : (tables : Option (List (List ℕ))) (read : Tables) (gaps : Bool) (given : MergeFault) → IfSome tables (λ each. with_files 0 [] each ≡ Ok read) → IsTold (whole_of gaps read) given → IfSome tables (λ each. IsTold (whole_in gaps each) given)
whole_refused None read gaps given are told = tt
whole_refused (Some each) read gaps given are told =
    told_of (whole_of gaps read) (whole_in gaps each) given (λ is. ap (λ r. r >>= whole_of gaps) are ∙ is) told

pub whole_is : (tables : Option (List (List ℕ))) (read : Tables) (gaps : Bool) (whole : Whole) → IfSome tables (λ each. with_files 0 [] each ≡ Ok read) → whole_of gaps read ≡ Ok whole → IfSome tables (λ each. whole_in gaps each ≡ Ok whole)
whole_is None read gaps whole are is = tt
whole_is (Some each) read gaps whole are is = ap (λ r. r >>= whole_of gaps) are ∙ is

-- ---- all files

-- what is merged, where the races that are expected are read last
abbrev with_expected : Whole → Option Table → Result Merge MergeFault
with_expected whole expected = Ok (record { whole = whole; unexpected = unexpected_in expected whole.rows })

none_before : (r : Result Tables MergeFault) → (r >>= λ tables. Ok ([] ++ tables)) ≡ r
none_before (Ok tables) = refl
none_before (Err given) = refl

whole_same : (gaps : Bool) (files : List (List ℕ)) → whole_in gaps files ≡ (tables_from 0 files >>= whole_of gaps)
whole_same gaps files = ap (λ r. r >>= whole_of gaps) (added_are 0 [] files ∙ none_before (tables_from 0 files))

then_same : (r : Result Tables MergeFault) (gaps : Bool) (last : Result (Option Table) MergeFault) → (r >>= λ tables. whole_of gaps tables >>= λ whole. last >>= with_expected whole) ≡ ((r >>= whole_of gaps) >>= λ whole. last >>= with_expected whole)
then_same (Ok tables) gaps last = refl
then_same (Err given) gaps last = refl

merge_same : (gaps : Bool) (files : Files) → merge_of gaps files ≡ (whole_in gaps files.tables >>= λ whole. expected_in (length files.tables) files.expected >>= with_expected whole)
unfolding merge_of
merge_same gaps files =
    then_same (tables_from 0 files.tables) gaps (expected_in (length files.tables) files.expected)
    ∙ ap (λ r. r >>= λ whole. expected_in (length files.tables) files.expected >>= with_expected whole) (sym (whole_same gaps files.tables))

-- the tables were merged
tables_ok : (gaps : Bool) (files : Files) (whole : Whole) → whole_in gaps files.tables ≡ Ok whole → merge_of gaps files ≡ (expected_in (length files.tables) files.expected >>= with_expected whole)
tables_ok gaps files whole is =
    merge_same gaps files ∙ ap (λ r. r >>= λ w. expected_in (length files.tables) files.expected >>= with_expected w) is

-- one of them was refused
tables_err : (gaps : Bool) (files : Files) (given : MergeFault) → whole_in gaps files.tables ≡ Err given → merge_of gaps files ≡ Err given
tables_err gaps files given is =
    merge_same gaps files ∙ err_then (whole_in gaps files.tables) (λ whole. expected_in (length files.tables) files.expected >>= with_expected whole) given is

abbrev known : Option (List (List ℕ)) → Option (Option (List ℕ)) → Option Files
known tables last = option_and_then (λ each. option_map (λ expected. record { tables = each; expected = expected }) last) tables

pub tables_refused : (gaps : Bool) (tables : Option (List (List ℕ))) (last : Option (Option (List ℕ))) (given : MergeFault) → IfSome tables (λ each. IsTold (whole_in gaps each) given) → IfSome (known tables last) (λ files. IsTold (merge_of gaps files) given)
tables_refused gaps None last given told = tt
tables_refused gaps (Some each) None given told = tt
tables_refused gaps (Some each) (Some expected) given told =
    told_of (whole_in gaps each) (merge_of gaps (record { tables = each; expected = expected })) given (tables_err gaps (record { tables = each; expected = expected }) given) told

pub expected_refused : (gaps : Bool) (tables : Option (List (List ℕ))) (last : Option (Option (List ℕ))) (whole : Whole) (count : ℕ) (given : MergeFault) → IfSome tables (λ each. whole_in gaps each ≡ Ok whole) → IfSome tables (λ each. count ≡ length each)
    → IfSome last (λ expected. IsTold (expected_in count expected) given) → IfSome (known tables last) (λ files. IsTold (merge_of gaps files) given)
expected_refused gaps None last whole count given is many told = tt
expected_refused gaps (Some each) None whole count given is many told = tt
expected_refused gaps (Some each) (Some expected) whole count given is many told =
    told_of (expected_in count expected) (merge_of gaps (record { tables = each; expected = expected })) given
    (λ refused. tables_ok gaps (record { tables = each; expected = expected }) whole is ∙ err_then (expected_in (length each) expected) (with_expected whole) given (ap (λ n. expected_in n expected) (sym many) ∙ refused))
    told

pub all_merged : (gaps : Bool) (tables : Option (List (List ℕ))) (last : Option (Option (List ℕ))) (whole : Whole) (count : ℕ) (expected : Option Table) (found : Table) → IfSome tables (λ each. whole_in gaps each ≡ Ok whole) → IfSome tables (λ each. count ≡ length each)
    → IfSome last (λ given. expected_in count given ≡ Ok expected) → found ≡ unexpected_in expected whole.rows → IfSome (known tables last) (λ files. merge_of gaps files ≡ Ok (record { whole = whole; unexpected = found }))
all_merged gaps None last whole count expected found is many read told = tt
all_merged gaps (Some each) None whole count expected found is many read told = tt
all_merged gaps (Some each) (Some given) whole count expected found is many read told =
    tables_ok gaps (record { tables = each; expected = given }) whole is ∙ ap (λ r. r >>= with_expected whole) (ap (λ n. expected_in n given) (sym many) ∙ read)
    ∙ ap (λ (f : Table). Ok (record { whole = whole; unexpected = f })) (sym told)

pub count_known : {R : Type 0} (remaining : R → Option (List ℕ)) (readers : List (Flagged R)) → IfSome (bytes_of remaining readers) (λ each. length readers ≡ length each)
count_known remaining readers = counted (bytes_of remaining readers) refl
  where
    counted : (o : Option (List (List ℕ))) → bytes_of remaining readers ≡ o → IfSome o (λ each. length readers ≡ length each)
    counted None are = tt
    counted (Some each) are = bytes_count remaining readers each are

pub none_failed : (failed : Bool) → (failed || false) ≡ failed
none_failed true = refl
none_failed false = refl

-- neither of two with nothing more
pub nothing_more : (a b : Bool) → ((a || false) || (b || false)) ≡ ((a || b) || false)
nothing_more true b = refl
nothing_more false true = refl
nothing_more false false = refl
