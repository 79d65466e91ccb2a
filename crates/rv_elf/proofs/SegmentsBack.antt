-- The segments of a written file are those that were written.
use Rattle.std.proofs.Common.{◌≡◌, ℕ, suc, ◌+◌, ◌*◌, ◌^◌, ◌<◌, ◌≤◌, Bool, true, false, not, cond, eqb, leb, List, [], ◌∷◌, ◌++◌, map, length, take, drop, Result, Ok, All, refl, sym, ap, ◌∙◌, append_assoc, arith}
use Rattle.std.specs.Prelude.{bit_and}
use Rattle.std.specs.List.{AllByRecursion, filter, flat_map, list_any, sum_by}
use Rattle.std.proofs.lemmas.Bool.{ne_eqb, le-leb}
use Rattle.std.proofs.lemmas.List.{take_at, drop_at, length-append}
use Rattle.std.proofs.lemmas.List.Elements.{recursion_from_All}
use Rattle.std.proofs.lemmas.List.Sums.{sum_by-cons}
use Rattle.rv_memory.specs.Extent.{Extent}
use Rattle.rv_elf.specs.declared.fault.LoadFault.{LoadFault}
use Rattle.rv_elf.specs.declared.layout.FileHeader.{FileHeader}
use Rattle.rv_elf.specs.declared.layout.ProgramHeader.{ProgramHeader}
use Rattle.rv_elf.specs.Contents.{IsSegment, AreSegments}
use Rattle.rv_elf.specs.Layout.{program_header, records}
use Rattle.rv_elf.specs.Loaded.{is_dynamic, is_loaded, loaded_headers, segment, segment_test, each_segment_test}
use Rattle.rv_elf.specs.Written.{program_header_bytes, header_at, headers_from}
use Rattle.rv_elf.proofs.ReadBack.{ProgramHeaderFits, part_at, records_back, program_header_back, program_header_len}

abbrev passed : Result (Unit {0}) LoadFault
passed = Ok tt

-- each flag is read back
flags_back : (r w x : Bool) → let flags = cond r 4 0 + cond w 2 0 + cond x 1 0 in
    (not (eqb (bit_and flags 4) 0) ≡ r) × (not (eqb (bit_and flags 2) 0) ≡ w) × (not (eqb (bit_and flags 1) 0) ≡ x)
flags_back true true true = (refl, refl, refl)
flags_back true true false = (refl, refl, refl)
flags_back true false true = (refl, refl, refl)
flags_back true false false = (refl, refl, refl)
flags_back false true true = (refl, refl, refl)
flags_back false true false = (refl, refl, refl)
flags_back false false true = (refl, refl, refl)
flags_back false false false = (refl, refl, refl)

flags_small : (r w x : Bool) → cond r 4 0 + cond w 2 0 + cond x 1 0 < 2 ^ 32
flags_small true true true = omega arith
flags_small true true false = omega arith
flags_small true false true = omega arith
flags_small true false false = omega arith
flags_small false true true = omega arith
flags_small false true false = omega arith
flags_small false false true = omega arith
flags_small false false false = omega arith

same_extent : (bytes : List ℕ) (r w x : Bool) (s : Extent) → bytes ≡ s.bytes → r ≡ s.r → w ≡ s.w → x ≡ s.x
    → record { start = s.start; bytes = bytes; len = s.len; r = r; w = w; x = x } ≡ s
same_extent bytes r w x s e0 e1 e2 e3 = rw (e0, e1, e2, e3) refl

-- a segment whose bytes lie at its offset
segment_back : (before rest : List ℕ) (offset : ℕ) (s : Extent) → length before ≡ offset → segment (before ++ (s.bytes ++ rest)) (header_at offset s) ≡ s
segment_back before rest offset s at =
    let flags = flags_back s.r s.w s.x in
    let found : take (length s.bytes) (drop offset (before ++ (s.bytes ++ rest))) ≡ s.bytes = rw (drop_at before (s.bytes ++ rest) offset at, take_at s.bytes rest (length s.bytes) refl) refl in
    same_extent _ _ _ _ s found flags.0 flags.1 flags.2

test_back : (before rest : List ℕ) (offset : ℕ) (s : Extent) → length before ≡ offset → IsSegment s → segment_test (before ++ (s.bytes ++ rest)) (header_at offset s) ≡ passed
unfolding segment_test
test_back before rest offset s at is =
    rw (le-leb (length s.bytes) s.len is.within, part_at before s.bytes rest offset (length s.bytes) at refl, le-leb (s.start + s.len) (2 ^ 32) is.ends) refl

abbrev data_of : List Extent → List ℕ
data_of segments = flat_map (λ s. s.bytes) segments

-- the bytes of a segment go to what lies before the others
regrouped : (before s others rest : List ℕ) → before ++ ((s ++ others) ++ rest) ≡ before ++ (s ++ (others ++ rest))
regrouped before s others rest = ap (λ t. before ++ t) (append_assoc s others rest)

moved : (before s others rest : List ℕ) → before ++ ((s ++ others) ++ rest) ≡ (before ++ s) ++ (others ++ rest)
moved before s others rest = regrouped before s others rest ∙ sym (append_assoc before s (others ++ rest))

pub segments_back : (segments : List Extent) (before rest : List ℕ) (offset : ℕ) → length before ≡ offset
    → map (segment (before ++ (data_of segments ++ rest))) (headers_from offset segments) ≡ segments
segments_back [] before rest offset at = refl
segments_back (s ∷ ss) before rest offset at =
    let first = ap (λ file. segment file (header_at offset s)) (regrouped before s.bytes (data_of ss) rest) ∙ segment_back before (data_of ss ++ rest) offset s at in
    let others = ap (λ file. map (segment file) (headers_from (offset + length s.bytes) ss)) (moved before s.bytes (data_of ss) rest) ∙ segments_back ss (before ++ s.bytes) rest (offset + length s.bytes) (omega (arith, length-append before s.bytes)) in
    rw (first, others) refl

tests_back : (segments : List Extent) (before rest : List ℕ) (offset : ℕ) → length before ≡ offset → AllByRecursion IsSegment segments
    → each_segment_test (before ++ (data_of segments ++ rest)) (headers_from offset segments) ≡ passed
unfolding each_segment_test
tests_back [] before rest offset at are = refl
tests_back (s ∷ ss) before rest offset at are =
    let first = ap (λ file. segment_test file (header_at offset s)) (regrouped before s.bytes (data_of ss) rest) ∙ test_back before (data_of ss ++ rest) offset s at are.0 in
    let others = ap (λ file. each_segment_test file (headers_from (offset + length s.bytes) ss)) (moved before s.bytes (data_of ss) rest) ∙ tests_back ss (before ++ s.bytes) rest (offset + length s.bytes) (omega (arith, length-append before s.bytes)) are.1 in
    rw (first, others) refl

pub each_back : (segments : List Extent) (before rest : List ℕ) (offset : ℕ) → length before ≡ offset → All IsSegment segments
    → each_segment_test (before ++ (data_of segments ++ rest)) (headers_from offset segments) ≡ passed
each_back segments before rest offset at are = tests_back segments before rest offset at (recursion_from_All IsSegment segments are)

-- ---- the program headers

headers_fit : (segments : List Extent) (offset : ℕ) → AllByRecursion IsSegment segments → offset + sum_by (λ s. length s.bytes) segments < 2 ^ 32
    → sum_by (λ s. s.len) segments ≤ 16_777_216 → AllByRecursion ProgramHeaderFits (headers_from offset segments)
headers_fit [] offset are small len = tt
headers_fit (s ∷ ss) offset are small len =
    let bytes = sum_by-cons (λ (e : Extent). length e.bytes) s ss in
    let lens = sum_by-cons (λ (e : Extent). e.len) s ss in
    let start : s.start < 2 ^ 32 = omega (arith, are.0.some, are.0.ends) in
    let filesz : length s.bytes < 2 ^ 32 = omega (arith, bytes, small) in
    let memsz : s.len < 2 ^ 32 = omega (arith, lens, len) in (
      record { type = omega arith; offset = omega arith; vaddr = start; paddr = start; filesz = filesz; memsz = memsz; flags = flags_small s.r s.w s.x; align = omega arith },
      headers_fit ss (offset + length s.bytes) are.1 (omega (arith, bytes, small)) (omega (arith, lens, len)),
    )

none_dynamic : (segments : List Extent) (offset : ℕ) → list_any is_dynamic (headers_from offset segments) ≡ false
none_dynamic [] offset = refl
none_dynamic (s ∷ ss) offset = none_dynamic ss (offset + length s.bytes)

all_loaded : (segments : List Extent) (offset : ℕ) → AllByRecursion IsSegment segments → filter is_loaded (headers_from offset segments) ≡ headers_from offset segments
all_loaded [] offset are = refl
all_loaded (s ∷ ss) offset are =
    let some = are.0.some in
    let not_empty : eqb s.len 0 ≡ false = ne_eqb s.len 0 (λ e. absurd (omega (arith, e, some))) in
    rw (not_empty, all_loaded ss (offset + length s.bytes) are.1) refl

pub headers_count : (segments : List Extent) (offset : ℕ) → length (headers_from offset segments) ≡ length segments
headers_count [] offset = refl
headers_count (s ∷ ss) offset = ap suc (headers_count ss (offset + length s.bytes))

pub table_len : (hs : List ProgramHeader) → length (flat_map program_header_bytes hs) ≡ 32 * length hs
table_len [] = refl
table_len (h ∷ hs) = omega (arith, table_len hs, program_header_len h, length-append (program_header_bytes h) (flat_map program_header_bytes hs))

-- where the program headers of segments lie, they are read
pub headers_back : (header : FileHeader) (before rest : List ℕ) (entry : ℕ) (segments : List Extent) (offset : ℕ) → AreSegments entry segments
    → offset + sum_by (λ s. length s.bytes) segments < 2 ^ 32 → length before ≡ header.e_phoff → header.e_phnum ≡ length segments
    → loaded_headers header (before ++ (flat_map program_header_bytes (headers_from offset segments) ++ rest)) ≡ Ok (headers_from offset segments)
unfolding loaded_headers
headers_back header before rest entry segments offset are small at count =
    let hs = headers_from offset segments in
    let each = recursion_from_All IsSegment segments are.each in
    let few : leb header.e_phnum 64 ≡ true = le-leb header.e_phnum 64 (omega (arith, count, are.few)) in
    let number : header.e_phnum ≡ length hs = count ∙ sym (headers_count segments offset) in
    let table = part_at before (flat_map program_header_bytes hs) rest header.e_phoff (32 * header.e_phnum) at (table_len hs ∙ ap (λ n. 32 * n) (sym number)) in
    let read : records program_header 32 header.e_phnum (flat_map program_header_bytes hs) ≡ hs =
    ap (λ n. records program_header 32 n (flat_map program_header_bytes hs)) number
    ∙ records_back program_header program_header_bytes ProgramHeaderFits 32 program_header_back program_header_len hs (headers_fit segments offset each small are.small) in
    rw (few, table, read, none_dynamic segments offset, all_loaded segments offset each) refl
