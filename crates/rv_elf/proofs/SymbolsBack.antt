-- The symbols of a written file are those that were written.
use Rattle.std.proofs.Common.{◌≡◌, ℕ, suc, ◌+◌, ◌*◌, ◌/◌, ◌%◌, ◌^◌, ◌<◌, ◌≤◌, true, false, eqb, leb, ltb, Some, List, [], ◌∷◌, ◌++◌, length, Result, Ok, refl, sym, ap, ◌∙◌, append_assoc, arith}
use Rattle.std.specs.Prelude.{is_some}
use Rattle.std.specs.List.{AllByRecursion, filter, flat_map, list_all, sum_by}
use Rattle.std.proofs.lemmas.Bool.{and_parts, le-leb, ltb-true, ne_eqb}
use Rattle.std.proofs.lemmas.List.{append-nil, drop_at, length-append}
use Rattle.std.proofs.lemmas.List.Elements.{recursion_from_All}
use Rattle.std.proofs.lemmas.List.Sums.{sum_by-cons}
use Rattle.rv_elf.specs.declared.fault.LoadFault.{LoadFault}
use Rattle.rv_elf.specs.declared.layout.SymbolEntry.{SymbolEntry}
use Rattle.rv_elf.specs.Contents.{Named, need_of, IsSymbol, AreSymbols}
use Rattle.rv_elf.specs.Layout.{symbol_entry, records}
use Rattle.rv_elf.specs.Loaded.{is_candidate, text, name_of, symbol, kept, symbols_among, entries_of, entries_test}
use Rattle.rv_elf.specs.Written.{symbol_entry_bytes, entry_at, entries_from, null_entry, symbol_bytes, terminated, string_table}
use Rattle.rv_elf.proofs.ReadBack.{SymbolEntryFits, records_back, symbol_entry_back, symbol_entry_len}
use Rattle.rv_elf.proofs.Sizes.{names_len, tables_small}

abbrev passed : Result (Unit {0}) LoadFault
passed = Ok tt

-- ---- names

text_step : (b : ℕ) (bytes found : List ℕ) → ltb 0 b ≡ true → text bytes ≡ Some found → text (b ∷ bytes) ≡ Some (b ∷ found)
text_step b bytes found some e =
    let not_zero : eqb b 0 ≡ false = ne_eqb b 0 (λ z. absurd (omega (arith, z, ltb-true 0 b some))) in
    rw (not_zero, e) refl

text_back : (name rest : List ℕ) → list_all (λ b. ltb 0 b) name ≡ true → text (name ++ 0 ∷ rest) ≡ Some name
text_back [] rest unbroken = refl
text_back (b ∷ name) rest unbroken =
    let parts = and_parts (ltb 0 b) (list_all (λ c. ltb 0 c) name) unbroken in text_step b (name ++ 0 ∷ rest) name parts.0 (text_back name rest parts.1)

-- ---- one symbol

same_named : (kind : ℕ) (s : Named) → kind ≡ s.kind → record { name = s.name; value = s.value; size = s.size; kind = kind } ≡ s
same_named kind s e = rw e refl

candidate_back : (name : ℕ) (s : Named) → 1 ≤ name → s.kind ≤ 2 → is_candidate (entry_at name s) ≡ true
candidate_back name s some kind =
    let low : leb ((16 + s.kind) % 16) 2 ≡ true = le-leb ((16 + s.kind) % 16) 2 (omega (arith, kind)) in
    let named : eqb name 0 ≡ false = ne_eqb name 0 (λ z. absurd (omega (arith, z, some))) in
    rw (low, named) refl

-- its name, where it lies in the strings
name_back : (before rest : List ℕ) (name : ℕ) (s : Named) → length before ≡ name → IsSymbol s → name_of (before ++ (terminated s.name ++ rest)) (entry_at name s) ≡ Some s.name
name_back before rest name s at is =
    rw (drop_at before (terminated s.name ++ rest) name at, append_assoc s.name (0 ∷ []) rest) (text_back s.name rest is.unbroken)

kept_back : (before rest : List ℕ) (name : ℕ) (s : Named) → length before ≡ name → 1 ≤ name → IsSymbol s → kept (before ++ (terminated s.name ++ rest)) (entry_at name s) ≡ Some s
kept_back before rest name s at some is =
    let kind = is.kind in
    let same : symbol (entry_at name s) s.name ≡ s = same_named ((16 + s.kind) % 16) s (omega (arith, kind)) in
    rw (candidate_back name s some is.kind, name_back before rest name s at is, is.text, le-leb 1 (length s.name) is.some, same) refl

-- ---- all of them

abbrev names_of : List Named → List ℕ
names_of symbols = flat_map (λ s. terminated s.name) symbols

regrouped : (before s others rest : List ℕ) → before ++ ((s ++ others) ++ rest) ≡ before ++ (s ++ (others ++ rest))
regrouped before s others rest = ap (λ t. before ++ t) (append_assoc s others rest)

moved : (before s others rest : List ℕ) → before ++ ((s ++ others) ++ rest) ≡ (before ++ s) ++ (others ++ rest)
moved before s others rest = regrouped before s others rest ∙ sym (append_assoc before s (others ++ rest))

after_name : (before : List ℕ) (name : ℕ) (s : Named) → length before ≡ name → length (before ++ terminated s.name) ≡ name + (length s.name + 1)
after_name before name s at = omega (arith, length-append before (terminated s.name), length-append s.name (0 ∷ []))

symbols_back : (symbols : List Named) (before rest : List ℕ) (name : ℕ) → length before ≡ name → 1 ≤ name → AllByRecursion IsSymbol symbols
    → symbols_among (before ++ (names_of symbols ++ rest)) (entries_from name symbols) ≡ symbols
unfolding symbols_among
symbols_back [] before rest name at some are = refl
symbols_back (s ∷ ss) before rest name at some are =
    let first = ap (λ strings. kept strings (entry_at name s)) (regrouped before (terminated s.name) (names_of ss) rest) ∙ kept_back before (names_of ss ++ rest) name s at some are.0 in
    let others = ap (λ strings. symbols_among strings (entries_from (name + (length s.name + 1)) ss)) (moved before (terminated s.name) (names_of ss) rest) ∙ symbols_back ss (before ++ terminated s.name) rest (name + (length s.name + 1)) (after_name before name s at) (omega arith) are.1 in
    rw (first, others) refl

names_back : (symbols : List Named) (before rest : List ℕ) (name : ℕ) → length before ≡ name → 1 ≤ name → AllByRecursion IsSymbol symbols
    → list_all (λ s. is_some (name_of (before ++ (names_of symbols ++ rest)) s)) (filter is_candidate (entries_from name symbols)) ≡ true
names_back [] before rest name at some are = refl
names_back (s ∷ ss) before rest name at some are =
    let first = ap (λ strings. name_of strings (entry_at name s)) (regrouped before (terminated s.name) (names_of ss) rest) ∙ name_back before (names_of ss ++ rest) name s at are.0 in
    let others = ap (λ strings. list_all (λ t. is_some (name_of strings t)) (filter is_candidate (entries_from (name + (length s.name + 1)) ss))) (moved before (terminated s.name) (names_of ss) rest) ∙ names_back ss (before ++ terminated s.name) rest (name + (length s.name + 1)) (after_name before name s at) (omega arith) are.1 in
    rw (candidate_back name s some are.0.kind, first, others) refl

-- the null entry in front makes no symbol
abbrev all_entries : List Named → List SymbolEntry
all_entries symbols = null_entry ∷ entries_from 1 symbols

strings_are : (symbols : List Named) → string_table symbols ≡ (0 ∷ []) ++ (names_of symbols ++ [])
unfolding string_table
strings_are symbols = ap (λ t. 0 ∷ t) (sym (append-nil (names_of symbols)))

pub found_back : (symbols : List Named) → AreSymbols symbols → symbols_among (string_table symbols) (all_entries symbols) ≡ symbols
unfolding symbols_among
found_back symbols are =
    ap (λ strings. symbols_among strings (entries_from 1 symbols)) (strings_are symbols)
    ∙ symbols_back symbols (0 ∷ []) [] 1 refl (omega arith) (recursion_from_All IsSymbol symbols are.each)

pub entries_pass : (symbols : List Named) → AreSymbols symbols → entries_test 67_108_864 (string_table symbols) (all_entries symbols) ≡ passed
unfolding entries_test
entries_pass symbols are =
    let named : list_all (λ s. is_some (name_of (string_table symbols) s)) (filter is_candidate (entries_from 1 symbols)) ≡ true = ap (λ strings. list_all (λ s. is_some (name_of strings s)) (filter is_candidate (entries_from 1 symbols))) (strings_are symbols) ∙ names_back symbols (0 ∷ []) [] 1 refl (omega arith) (recursion_from_All IsSymbol symbols are.each) in
    rw (named, found_back symbols are, le-leb (sum_by need_of symbols) 67_108_864 are.small) refl

-- ---- the entries

entries_fit : (symbols : List Named) (name : ℕ) → AllByRecursion IsSymbol symbols → name + names_len symbols < 2 ^ 32 → AllByRecursion SymbolEntryFits (entries_from name symbols)
entries_fit [] name are small = tt
entries_fit (s ∷ ss) name are small =
    let more = sum_by-cons (λ (t : Named). length t.name + 1) s ss in (
      record { name = omega arith; value = are.0.value; size = are.0.size; shndx = omega arith },
      entries_fit ss (name + (length s.name + 1)) are.1 (omega (arith, more, small)),
    )

entries_count : (symbols : List Named) (name : ℕ) → length (entries_from name symbols) ≡ length symbols
entries_count [] name = refl
entries_count (s ∷ ss) name = ap suc (entries_count ss (name + (length s.name + 1)))

entries_len : (es : List SymbolEntry) → length (flat_map symbol_entry_bytes es) ≡ 16 * length es
entries_len [] = refl
entries_len (e ∷ es) = omega (arith, entries_len es, symbol_entry_len e, length-append (symbol_entry_bytes e) (flat_map symbol_entry_bytes es))

pub symbol_bytes_len : (symbols : List Named) → length (symbol_bytes symbols) ≡ 16 * (1 + length symbols)
unfolding symbol_bytes
symbol_bytes_len symbols = omega (arith, entries_len (all_entries symbols), entries_count symbols 1)

strings_sum : (symbols : List Named) → length (names_of symbols) ≡ names_len symbols
strings_sum [] = refl
strings_sum (s ∷ ss) =
    omega (arith, strings_sum ss, length-append (terminated s.name) (names_of ss), length-append s.name (0 ∷ []), sum_by-cons (λ (t : Named). length t.name + 1) s ss)

pub string_table_len : (symbols : List Named) → length (string_table symbols) ≡ 1 + names_len symbols
unfolding string_table
string_table_len symbols = omega (arith, strings_sum symbols)

pub entries_back : (symbols : List Named) → AreSymbols symbols → entries_of (symbol_bytes symbols) ≡ all_entries symbols
unfolding entries_of symbol_bytes
entries_back symbols are =
    let small = tables_small symbols are in
    let number : length (flat_map symbol_entry_bytes (all_entries symbols)) / 16 ≡ length (all_entries symbols) = omega (arith, entries_len (all_entries symbols)) in
    let null_fits : SymbolEntryFits null_entry = record { name = omega arith; value = omega arith; size = omega arith; shndx = omega arith } in
    ap (λ n. records symbol_entry 16 n (flat_map symbol_entry_bytes (all_entries symbols))) number
    ∙ records_back symbol_entry symbol_entry_bytes SymbolEntryFits 16 symbol_entry_back symbol_entry_len (all_entries symbols) (null_fits, entries_fit symbols 1 (recursion_from_All IsSymbol symbols are.each) (omega (arith, small)))
