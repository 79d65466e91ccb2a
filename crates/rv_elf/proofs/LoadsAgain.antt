-- The file of an image loads as the image.
use Rattle.std.proofs.Common.{◌≡◌, ℕ, ◌+◌, ◌-◌, ◌*◌, ◌%◌, ◌^◌, ◌<◌, ◌≤◌, Bool, true, false, ◌&&◌, ◌||◌, eqb, leb, Some, List, [], ◌∷◌, ◌++◌, map, length, Result, Ok, refl, sym, ap, ◌∙◌, append_assoc, arith, inl, inr}
use Rattle.std.specs.List.{AllByRecursion, find, flat_map}
use Rattle.std.proofs.lemmas.Bool.{and_parts, eq-eqb, le-leb, leb-true, ne_eqb, or_cases}
use Rattle.std.proofs.lemmas.List.{append-nil, length-append, length-replicate}
use Rattle.std.proofs.lemmas.List.Concat.{length-flat_map}
use Rattle.std.proofs.lemmas.List.Elements.{recursion_from_All}
use Rattle.rv_memory.specs.Extent.{Extent, end_of}
use Rattle.rv_memory.specs.Memory.{holds, permits}
use Rattle.rv_memory.specs.declared.store.Need.TheVariants.{Execute}
use Rattle.rv_elf.specs.declared.fault.LoadFault.{LoadFault}
use Rattle.rv_elf.specs.declared.fault.LoadFault.TheVariants.{HeaderSize}
use Rattle.rv_elf.specs.declared.layout.FileHeader.{FileHeader}
use Rattle.rv_elf.specs.declared.layout.ProgramHeader.{ProgramHeader}
use Rattle.rv_elf.specs.declared.layout.SectionHeader.{SectionHeader}
use Rattle.rv_elf.specs.declared.places.Places.{Places}
use Rattle.rv_elf.specs.declared.writing.Sections.{Sections}
use Rattle.rv_elf.specs.Contents.{Named, contents, IsSegment, AreSegments, AreSymbols}
use Rattle.rv_elf.specs.Layout.{section_header, part, records}
use Rattle.rv_memory.specs.Chain.{want}
use Rattle.rv_elf.specs.Loaded.{table_among, header_test, header_of, loaded_headers, segment, each_segment_test, segments_test, SymbolTable, no_table, linked_table, symbol_table, entries_of, entries_test, symbols_among, loaded}
use Rattle.rv_elf.specs.Written.{file_header_bytes, program_header_bytes, section_header_bytes, no_sections, header_for, headers_from, data_start, front, symbol_bytes, string_table, section_names, aligned, padding, data_end, strings_len, places_of, symbol_section, string_section, sections_of, tables, written_with, written_parts, written}
use Rattle.rv_elf.specs.Laws.{LoadsAgain}
use Rattle.rv_elf.proofs.Facts.{test_from_apart}
use Rattle.rv_elf.proofs.ReadBack.{FileHeaderFits, SectionHeaderFits, part_at, records_back, file_header_back, file_header_len, section_header_back, section_header_len}
use Rattle.rv_elf.proofs.SegmentsBack.{segments_back, each_back, headers_back, headers_count, table_len}
use Rattle.rv_elf.proofs.SymbolsBack.{found_back, entries_pass, entries_back, symbol_bytes_len, string_table_len}
use Rattle.rv_elf.proofs.Sizes.{data_small, places_in_order}

abbrev passed : Result (Unit {0}) LoadFault
passed = Ok tt

-- ---- the steps of loading, once each is known

steps_back : (file : List ℕ) (h : FileHeader) (hs : List ProgramHeader) (segments : List Extent) (t : SymbolTable) → header_of file ≡ Ok h → loaded_headers h file ≡ Ok hs → each_segment_test file hs ≡ passed
    → map (segment file) hs ≡ segments → segments_test h.e_entry segments ≡ passed → symbol_table h file ≡ Ok t → entries_test 67_108_864 t.strings (entries_of t.symbols) ≡ passed
    → loaded file ≡ Ok (contents h.e_entry segments (symbols_among t.strings (entries_of t.symbols)))
unfolding loaded
steps_back file h hs segments t a b c d e f g = rw (a, b, c, d, e, f, g) refl

-- ---- the header

sizes_known : (b c : Bool) → want (true && (b || true) && (c || true)) HeaderSize ≡ passed
sizes_known true true = refl
sizes_known true false = refl
sizes_known false true = refl
sizes_known false false = refl

header_passes : (entry count : ℕ) (sections : Sections) → header_test (header_for entry count sections) ≡ passed
unfolding header_test
header_passes entry count sections = sizes_known (eqb count 0) (eqb sections.offset 0 || eqb sections.count 0)

-- the word at the entry lies below the last address
entry_small : (entry : ℕ) (segments : List Extent) → AllByRecursion IsSegment segments → permits segments entry 4 Execute ≡ true → entry < 2 ^ 32
entry_small entry [] are h = absurd cc
entry_small entry (s ∷ ss) are h =
    elim (or_cases (holds s entry 4 && s.x) (permits ss entry 4 Execute) h) [
      | inl here ↦ let held = and_parts (holds s entry 4) s.x here in
          let within = and_parts (leb s.start entry) (leb (entry + 4) (end_of s)) held.0 in
          let ends = are.0.ends in
          omega (arith, leb-true (entry + 4) (end_of s) within.1, ends)
      | inr there ↦ entry_small entry ss are.1 there
    ]

record SectionsFit (s : Sections) : Type 0 where
  offset : s.offset < 2 ^ 32
  count : s.count < 2 ^ 16
  names : s.names < 2 ^ 16

header_fits : (entry : ℕ) (segments : List Extent) (sections : Sections) → AreSegments entry segments → SectionsFit sections → FileHeaderFits (header_for entry (length segments) sections)
header_fits entry segments sections are fit =
    let few = are.few in
    record {
      ei_mag = omega arith;
      type = omega arith;
      machine = omega arith;
      version = omega arith;
      entry = entry_small entry segments (recursion_from_All IsSegment segments are.each) are.executable;
      phoff = omega arith;
      shoff = fit.offset;
      flags = omega arith;
      ehsize = omega arith;
      phentsize = omega arith;
      phnum = omega arith;
      shentsize = omega arith;
      shnum = fit.count;
      shstrndx = fit.names;
    }

header_back : (entry : ℕ) (segments : List Extent) (sections : Sections) (rest : List ℕ) → AreSegments entry segments → SectionsFit sections
    → header_of (file_header_bytes (header_for entry (length segments) sections) ++ rest) ≡ Ok (header_for entry (length segments) sections)
unfolding header_of
header_back entry segments sections rest are fit =
    let h : FileHeader = header_for entry (length segments) sections in
    let long : leb 52 (length (file_header_bytes h ++ rest)) ≡ true = le-leb 52 _ (omega (arith, file_header_len h, length-append (file_header_bytes h) rest)) in
    rw (long, file_header_back h rest (header_fits entry segments sections are fit), header_passes entry (length segments) sections) refl

-- ---- header and segments in front of other bytes

abbrev data_of : List Extent → List ℕ
data_of segments = flat_map (λ s. s.bytes) segments

front_groups : (h p d rest : List ℕ) → ((h ++ p) ++ d) ++ rest ≡ h ++ (p ++ (d ++ rest))
front_groups h p d rest = simp append_assoc

front_data : (h p d rest : List ℕ) → ((h ++ p) ++ d) ++ rest ≡ (h ++ p) ++ (d ++ rest)
front_data h p d rest = append_assoc (h ++ p) d rest

-- the front loads, whatever table of symbols is found
front_loads : (entry : ℕ) (segments : List Extent) (sections : Sections) (rest : List ℕ) (t : SymbolTable) → AreSegments entry segments → SectionsFit sections
    → symbol_table (header_for entry (length segments) sections) (front entry segments sections ++ rest) ≡ Ok t → entries_test 67_108_864 t.strings (entries_of t.symbols) ≡ passed
    → loaded (front entry segments sections ++ rest) ≡ Ok (contents entry segments (symbols_among t.strings (entries_of t.symbols)))
unfolding front
front_loads entry segments sections rest t are fit table entries =
    let h : FileHeader = header_for entry (length segments) sections in
    let hs : List ProgramHeader = headers_from (data_start segments) segments in
    let hb : List ℕ = file_header_bytes h in
    let pb : List ℕ = flat_map program_header_bytes hs in
    let db : List ℕ = data_of segments in
    let few = are.few in
    let bytes = data_small entry segments are in
    let first : header_of (((hb ++ pb) ++ db) ++ rest) ≡ Ok h = ap header_of (front_groups hb pb db rest) ∙ header_back entry segments sections (pb ++ (db ++ rest)) are fit in
    let second : loaded_headers h (((hb ++ pb) ++ db) ++ rest) ≡ Ok hs = ap (loaded_headers h) (front_groups hb pb db rest) ∙ headers_back h hb (db ++ rest) entry segments (data_start segments) are (omega (arith, bytes, few)) (file_header_len h) refl in
    let start : length (hb ++ pb) ≡ data_start segments = omega (arith, length-append hb pb, file_header_len h, table_len hs, headers_count segments (data_start segments)) in
    let third : each_segment_test (((hb ++ pb) ++ db) ++ rest) hs ≡ passed = ap (λ file. each_segment_test file hs) (front_data hb pb db rest) ∙ each_back segments (hb ++ pb) rest (data_start segments) start are.each in
    let fourth : map (segment (((hb ++ pb) ++ db) ++ rest)) hs ≡ segments = ap (λ file. map (segment file) hs) (front_data hb pb db rest) ∙ segments_back segments (hb ++ pb) rest (data_start segments) start in
    let fifth = test_from_apart entry segments (record { apart = are.apart; small = are.small; aligned = are.aligned; executable = are.executable }) in
    steps_back (((hb ++ pb) ++ db) ++ rest) h hs segments t first second third fourth fifth table entries

-- ---- the tables behind it

-- where the tables lie
record ArePlaced (end : ℕ) (named : List Named) (p : Places) : Type 0 where
  symbols : p.symbols ≡ aligned end
  strings : p.strings ≡ p.symbols + 16 * (1 + length named)
  names : p.names ≡ p.strings + strings_len named
  sections : p.sections ≡ aligned (p.names + 27)
  some : 52 ≤ p.sections
  small : p.sections < 2 ^ 32

placed_symbols : (f p s n x q h : List ℕ) → f ++ (((((p ++ s) ++ n) ++ x) ++ q) ++ h) ≡ (f ++ p) ++ (s ++ (n ++ (x ++ (q ++ h))))
placed_symbols f p s n x q h = simp append_assoc

placed_strings : (f p s n x q h : List ℕ) → f ++ (((((p ++ s) ++ n) ++ x) ++ q) ++ h) ≡ (f ++ (p ++ s)) ++ (n ++ (x ++ (q ++ h)))
placed_strings f p s n x q h = simp append_assoc

placed_sections : (f p s n x q h : List ℕ) → f ++ (((((p ++ s) ++ n) ++ x) ++ q) ++ h) ≡ (f ++ ((((p ++ s) ++ n) ++ x) ++ q)) ++ (h ++ [])
placed_sections f p s n x q h = rw (append-nil h) (sym (append_assoc f ((((p ++ s) ++ n) ++ x) ++ q) h))

padding_len : (n : ℕ) → length (padding n) ≡ aligned n - n
padding_len n = length-replicate (aligned n - n) 0

section_names_len : length section_names ≡ 27
unfolding section_names
section_names_len = refl

sections_len : (hs : List SectionHeader) → length (flat_map section_header_bytes hs) ≡ 40 * length hs
sections_len [] = refl
sections_len (h ∷ hs) = omega (arith, sections_len hs, section_header_len h, length-append (section_header_bytes h) (flat_map section_header_bytes hs))

null_fits : SectionHeaderFits (record { sh_name = 0; sh_type = 0; sh_flags = 0; sh_addr = 0; sh_offset = 0; sh_size = 0; sh_link = 0; sh_info = 0; sh_addralign = 0; sh_entsize = 0 })
null_fits = record { name = omega arith; type = omega arith; flags = omega arith; addr = omega arith; offset = omega arith; size = omega arith; link = omega arith; info = omega arith; addralign = omega arith; entsize = omega arith }

sections_fit : (end : ℕ) (symbols : List Named) (p : Places) → ArePlaced end symbols p → AllByRecursion SectionHeaderFits (sections_of p)
sections_fit end symbols p at =
    let a = at.strings in
    let b = at.names in
    let d = at.sections in
    let e = at.small in
    let table : SectionHeaderFits (symbol_section p) = record { name = omega arith; type = omega arith; flags = omega arith; addr = omega arith; offset = omega arith; size = omega arith; link = omega arith; info = omega arith; addralign = omega arith; entsize = omega arith } in
    let strings : SectionHeaderFits (string_section 9 p.strings (p.names - p.strings)) = record { name = omega arith; type = omega arith; flags = omega arith; addr = omega arith; offset = omega arith; size = omega arith; link = omega arith; info = omega arith; addralign = omega arith; entsize = omega arith } in
    let section_strings : SectionHeaderFits (string_section 17 p.names 27) = record { name = omega arith; type = omega arith; flags = omega arith; addr = omega arith; offset = omega arith; size = omega arith; link = omega arith; info = omega arith; addralign = omega arith; entsize = omega arith } in
    (null_fits, (table, (strings, (section_strings, tt))))

-- the symbol table that is found
abbrev table_of : List Named → SymbolTable
table_of symbols = record { symbols = symbol_bytes symbols; strings = string_table symbols }

-- what the file has at the places
record HasTables (file : List ℕ) (named : List Named) (p : Places) : Type 0 where
  symbols : part p.symbols (p.strings - p.symbols) file ≡ Some (symbol_bytes named)
  strings : part p.strings (p.names - p.strings) file ≡ Some (string_table named)
  sections : part p.sections 160 file ≡ Some (flat_map section_header_bytes (sections_of p))

has_tables : (before : List ℕ) (end : ℕ) (symbols : List Named) (p : Places) → length before ≡ end → ArePlaced end symbols p → HasTables (before ++ tables end symbols p) symbols p
unfolding tables
has_tables before end symbols p len at =
    let pad = padding end in
    let s = symbol_bytes symbols in
    let n = string_table symbols in
    let x = section_names in
    let q = padding (p.names + 27) in
    let h = flat_map section_header_bytes (sections_of p) in
    let a = at.symbols in
    let b = at.strings in
    let d = at.names in
    let e = at.sections in
    let pad_len = padding_len end in
    let s_len = symbol_bytes_len symbols in
    let n_len = string_table_len symbols in
    let x_len = section_names_len in
    let q_len = padding_len (p.names + 27) in
    let one : length (before ++ pad) ≡ p.symbols = omega (arith, length-append before pad) in
    let two : length (before ++ (pad ++ s)) ≡ p.strings = omega (arith, length-append before (pad ++ s), length-append pad s) in
    let three : length (before ++ ((((pad ++ s) ++ n) ++ x) ++ q)) ≡ p.sections = omega (arith, length-append before ((((pad ++ s) ++ n) ++ x) ++ q), length-append (((pad ++ s) ++ n) ++ x) q, length-append ((pad ++ s) ++ n) x, length-append (pad ++ s) n, length-append pad s) in
    record {
      symbols = ap (part p.symbols (p.strings - p.symbols)) (placed_symbols before pad s n x q h) ∙ part_at (before ++ pad) s (n ++ (x ++ (q ++ h))) p.symbols (p.strings - p.symbols) one (omega arith);
      strings = ap (part p.strings (p.names - p.strings)) (placed_strings before pad s n x q h) ∙ part_at (before ++ (pad ++ s)) n (x ++ (q ++ h)) p.strings (p.names - p.strings) two (omega arith);
      sections = ap (part p.sections 160) (placed_sections before pad s n x q h) ∙ part_at (before ++ ((((pad ++ s) ++ n) ++ x) ++ q)) h [] p.sections 160 three (sections_len (sections_of p));
    }

linked_back : (file : List ℕ) (end : ℕ) (symbols : List Named) (p : Places) → ArePlaced end symbols p → HasTables file symbols p
    → linked_table (symbol_section p) (sections_of p) file ≡ Ok (table_of symbols)
unfolding linked_table
linked_back file end symbols p at has =
    let b = at.strings in
    let whole : eqb ((p.strings - p.symbols) % 16) 0 ≡ true = eq-eqb _ 0 (omega arith) in
    rw (whole, has.symbols, has.strings) refl

abbrev with_sections : Places → Sections
with_sections p = record { offset = p.sections; count = 4; names = 3 }

table_back : (entry count : ℕ) (file : List ℕ) (end : ℕ) (symbols : List Named) (p : Places) → ArePlaced end symbols p → HasTables file symbols p
    → symbol_table (header_for entry count (with_sections p)) file ≡ Ok (table_of symbols)
unfolding symbol_table
table_back entry count file end symbols p at has =
    let some = at.some in
    let not_zero : eqb p.sections 0 ≡ false = ne_eqb p.sections 0 (λ z. absurd (omega (arith, z, some))) in
    let read : records section_header 40 4 (flat_map section_header_bytes (sections_of p)) ≡ sections_of p = records_back section_header section_header_bytes SectionHeaderFits 40 section_header_back section_header_len (sections_of p) (sections_fit end symbols p at) in
    rw (not_zero, has.sections) (ap (λ ss. table_among ss file (find (λ s. eqb s.sh_type 2) ss)) read ∙ linked_back file end symbols p at has)

-- ---- the whole

entries_found : (symbols : List Named) → AreSymbols symbols → symbols_among (string_table symbols) (entries_of (symbol_bytes symbols)) ≡ symbols
entries_found symbols are = ap (symbols_among (string_table symbols)) (entries_back symbols are) ∙ found_back symbols are

entries_tested : (symbols : List Named) → AreSymbols symbols → entries_test 67_108_864 (string_table symbols) (entries_of (symbol_bytes symbols)) ≡ passed
entries_tested symbols are = ap (entries_test 67_108_864 (string_table symbols)) (entries_back symbols are) ∙ entries_pass symbols are

are_placed : (entry : ℕ) (segments : List Extent) (symbols : List Named) → AreSegments entry segments → AreSymbols symbols → ArePlaced (data_end segments) symbols (places_of segments symbols)
unfolding places_of
are_placed entry segments symbols are are_symbols =
    let order = places_in_order entry segments symbols are are_symbols in
    let a = order.symbols in
    let b = order.strings in
    let d = order.names in
    let e = order.sections in
    let f = order.small in
    record { symbols = refl; strings = refl; names = refl; sections = refl; some = omega arith; small = omega arith }

front_len : (entry : ℕ) (segments : List Extent) (sections : Sections) → length (front entry segments sections) ≡ data_end segments
unfolding front
front_len entry segments sections =
    let h : FileHeader = header_for entry (length segments) sections in
    let hs : List ProgramHeader = headers_from (data_start segments) segments in
    omega (arith, length-append (file_header_bytes h ++ flat_map program_header_bytes hs) (data_of segments), length-append (file_header_bytes h) (flat_map program_header_bytes hs), file_header_len h, table_len hs, headers_count segments (data_start segments), length-flat_map (λ (s : Extent). s.bytes) segments)

with_back : (entry : ℕ) (segments : List Extent) (symbols : List Named) → AreSegments entry segments → AreSymbols symbols
    → loaded (written_with entry segments symbols (places_of segments symbols)) ≡ Ok (contents entry segments symbols)
with_back entry segments symbols are are_symbols =
    let p = places_of segments symbols in
    let at = are_placed entry segments symbols are are_symbols in
    let before = front entry segments (with_sections p) in
    let has = has_tables before (data_end segments) symbols p (front_len entry segments (with_sections p)) at in
    let file = before ++ tables (data_end segments) symbols p in
    let table = table_back entry (length segments) file (data_end segments) symbols p at has in
    front_loads entry segments (with_sections p) (tables (data_end segments) symbols p) (table_of symbols) are (record { offset = at.small; count = omega arith; names = omega arith }) table (entries_tested symbols are_symbols)
    ∙ ap (λ found. Ok (contents entry segments found)) (entries_found symbols are_symbols)

none_tested : entries_test 67_108_864 [] (entries_of []) ≡ passed
unfolding entries_test entries_of symbols_among
none_tested = refl

none_found : symbols_among [] (entries_of []) ≡ []
unfolding entries_of symbols_among
none_found = refl

no_table_found : (entry count : ℕ) (file : List ℕ) → symbol_table (header_for entry count no_sections) file ≡ Ok no_table
unfolding symbol_table
no_table_found entry count file = refl

without_back : (entry : ℕ) (segments : List Extent) → AreSegments entry segments → loaded (front entry segments no_sections) ≡ Ok (contents entry segments [])
without_back entry segments are =
    let fit : SectionsFit no_sections = record { offset = omega arith; count = omega arith; names = omega arith } in
    ap loaded (sym (append-nil (front entry segments no_sections)))
    ∙ front_loads entry segments no_sections [] no_table are fit (no_table_found entry (length segments) _) none_tested
    ∙ ap (λ found. Ok (contents entry segments found)) none_found

pub parts_back : (entry : ℕ) (segments : List Extent) (symbols : List Named) → AreSegments entry segments → AreSymbols symbols
    → loaded (written_parts entry segments symbols) ≡ Ok (contents entry segments symbols)
parts_back entry segments [] are are_symbols = without_back entry segments are
parts_back entry segments (s ∷ ss) are are_symbols = with_back entry segments (s ∷ ss) are are_symbols

pub loads_again_lem : LoadsAgain
unfolding written
loads_again_lem image is = parts_back image.entry image.segments image.symbols is.segments is.symbols
