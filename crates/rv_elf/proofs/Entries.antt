-- Steps of the loops over the entries of a symbol table.
use Rattle.std.proofs.Common.{◌≡◌, ℕ, ◌+◌, ◌-◌, ◌<◌, ◌≤◌, Bool, true, false, ◌&&◌, cond, leb, Option, Some, None, List, [], ◌∷◌, ◌++◌, length, drop, Result, Ok, Err, refl, sym, ap, ◌∙◌, arith, append_assoc, inl, inr}
use Rattle.std.specs.Prelude.{is_some}
use Rattle.std.specs.List.{filter, filter_map, cons_option, list_all, sum_by}
use Rattle.std.specs.Str.{is_utf8}
use Rattle.std.proofs.lemmas.List.{append-nil}
use Rattle.std.proofs.lemmas.List.Sums.{sum_by-cons}
use Rattle.std.proofs.lemmas.Bool.{cases_lt}
use Rattle.std.proofs.lemmas.Bool.Decides.{nat_tests}
use Rattle.rv_elf.specs.declared.fault.LoadFault.{LoadFault}
use Rattle.rv_elf.specs.declared.fault.LoadFault.TheVariants.{BadSymbols}
use Rattle.rv_elf.specs.declared.layout.SymbolEntry.{SymbolEntry}
use Rattle.rv_elf.specs.Contents.{Named, need_of}
use Rattle.rv_elf.specs.Layout.{symbol_entry, records}
use Rattle.rv_memory.specs.Chain.{◌>>=◌, want}
use Rattle.rv_elf.specs.Loaded.{is_candidate, name_of, kept, symbol, symbol_named, symbols_among, entries_test}
use Rattle.rv_elf.specs.internal.Steps.{room_after, room_named, room_with}
use Rattle.rv_elf.proofs.Tables.{records_more}

-- what is wanted of entries, by whether their names end and how much room they need
abbrev verdict : Bool → ℕ → ℕ → Result (Unit {0}) LoadFault
verdict named need room = want named BadSymbols >>= λ _. want (leb need room) BadSymbols

dropped : (b : Bool) (x : ℕ) → verdict false 0 0 ≡ (cond b (Ok x) (Err BadSymbols) >>= λ left. verdict false 0 left)
dropped true x = refl
dropped false x = refl

fits_after : (need first room : ℕ) → verdict true (first + need) room ≡ (cond (leb first room) (Ok (room - first)) (Err BadSymbols) >>= λ left. verdict true need left)
fits_after need first room =
    elim (cases_lt room first) [
      | inl lt ↦ let a : leb first room ≡ false = grind (arith, nat_tests) in
          let b : leb (first + need) room ≡ false = grind (arith, nat_tests) in
          rw (a, b) refl
      | inr le ↦ let a : leb first room ≡ true = grind (arith, nat_tests) in
          let b : leb (first + need) room ≡ leb need (room - first) = grind (arith, nat_tests) in
          rw (a, b) refl
    ]

-- one more symbol takes its room
needs : (named : Bool) (need first room : ℕ) → verdict named (first + need) room ≡ (cond (leb first room) (Ok (room - first)) (Err BadSymbols) >>= λ left. verdict named need left)
needs true need first room = fits_after need first room
needs false need first room = dropped (leb first room) (room - first)

-- a name that makes a symbol, or doesn't
step_if : (b named : Bool) (x : Named) (rest : List Named) (room : ℕ)
    → verdict named (sum_by need_of (cons_option (cond b (Some x) None) rest)) room ≡ (cond b (room_after room x.name) (Ok room) >>= λ left. verdict named (sum_by need_of rest) left)
step_if true named x rest room = rw (sum_by-cons need_of x rest) (needs named (sum_by need_of rest) (need_of x) room)
step_if false named x rest room = refl

step_named : (s : SymbolEntry) (name : Option (List ℕ)) (named : Bool) (rest : List Named) (room : ℕ)
    → verdict (is_some name && named) (sum_by need_of (cons_option (symbol_named s name) rest)) room ≡ (room_named room name >>= λ left. verdict named (sum_by need_of rest) left)
step_named s None named rest room = refl
step_named s (Some name) named rest room = step_if (is_utf8 name && leb 1 (length name)) named (symbol s name) rest room

step_candidate : (c : Bool) (s : SymbolEntry) (test : SymbolEntry → Bool) (name : Option (List ℕ)) (others : List SymbolEntry) (rest : List Named) (room : ℕ) → test s ≡ is_some name
    → verdict (list_all test (cond c (s ∷ others) others)) (sum_by need_of (cons_option (cond c (symbol_named s name) None) rest)) room
    ≡ (cond c (room_named room name) (Ok room) >>= λ left. verdict (list_all test others) (sum_by need_of rest) left)
step_candidate true s test name others rest room e =
    ap (λ b. verdict (b && list_all test others) (sum_by need_of (cons_option (symbol_named s name) rest)) room) e ∙ step_named s name (list_all test others) rest room
step_candidate false s test name others rest room e = refl

-- one more entry
pub entries_test-cons : (room : ℕ) (strings : List ℕ) (s : SymbolEntry) (ss : List SymbolEntry)
    → entries_test room strings (s ∷ ss) ≡ (room_with room strings s >>= λ left. entries_test left strings ss)
unfolding entries_test symbols_among room_with
entries_test-cons room strings s ss =
    step_candidate (is_candidate s) s (λ t. is_some (name_of strings t)) (name_of strings s) (filter is_candidate ss) (filter_map (kept strings) ss) room refl

entries_more : (room : ℕ) (strings : List ℕ) (count i : ℕ) (rest : List ℕ) → i < count
    → entries_test room strings (records symbol_entry 16 (count - i) rest) ≡ (room_with room strings (symbol_entry rest) >>= λ left. entries_test left strings (records symbol_entry 16 (count - (i + 1)) (drop 16 rest)))
entries_more room strings count i rest h =
    ap (entries_test room strings) (records_more symbol_entry 16 count i rest h) ∙ entries_test-cons room strings (symbol_entry rest) _

pub entry_passed : (room left : ℕ) (strings : List ℕ) (count i : ℕ) (rest after : List ℕ) (all : Result (Unit {0}) LoadFault) → i < count
    → room_with room strings (symbol_entry rest) ≡ Ok left → after ≡ drop 16 rest
    → entries_test room strings (records symbol_entry 16 (count - i) rest) ≡ all → entries_test left strings (records symbol_entry 16 (count - (i + 1)) after) ≡ all
entry_passed room left strings count i rest after all h passed after-is so_far =
    ap (λ t. entries_test left strings (records symbol_entry 16 (count - (i + 1)) t)) after-is
    ∙ sym (ap (λ r. r >>= λ left. entries_test left strings (records symbol_entry 16 (count - (i + 1)) (drop 16 rest))) passed)
    ∙ sym (entries_more room strings count i rest h) ∙ so_far

pub entry_failed : (room : ℕ) (strings : List ℕ) (count i : ℕ) (rest : List ℕ) (fault : LoadFault) (all : Result (Unit {0}) LoadFault) → i < count
    → room_with room strings (symbol_entry rest) ≡ Err fault
    → entries_test room strings (records symbol_entry 16 (count - i) rest) ≡ all → Err fault ≡ all
entry_failed room strings count i rest fault all h failed so_far =
    sym (ap (λ r. r >>= λ left. entries_test left strings (records symbol_entry 16 (count - (i + 1)) (drop 16 rest))) failed)
    ∙ sym (entries_more room strings count i rest h) ∙ so_far

pub entries_done : (room : ℕ) (strings : List ℕ) (count i : ℕ) (rest : List ℕ) (all : Result (Unit {0}) LoadFault) → count ≤ i
    → entries_test room strings (records symbol_entry 16 (count - i) rest) ≡ all → Ok tt ≡ all
unfolding entries_test symbols_among
entries_done room strings count i rest all h so_far =
    let k : count - i ≡ 0 = omega arith in
    let all_fit : leb 0 room ≡ true = grind (arith, nat_tests) in
    let none : entries_test room strings (records symbol_entry 16 (count - i) rest) ≡ verdict true 0 room = ap (λ n. entries_test room strings (records symbol_entry 16 n rest)) k in
    sym (ap (λ b. want b BadSymbols) all_fit) ∙ sym none ∙ so_far

-- the symbols so far, and one more entry
symbols_more : (strings : List ℕ) (count i : ℕ) (rest : List ℕ) → i < count
    → symbols_among strings (records symbol_entry 16 (count - i) rest) ≡ cons_option (kept strings (symbol_entry rest)) (symbols_among strings (records symbol_entry 16 (count - (i + 1)) (drop 16 rest)))
unfolding symbols_among
symbols_more strings count i rest h = ap (symbols_among strings) (records_more symbol_entry 16 count i rest h)

put_front : (found rest : List Named) (o : Option Named) → (found ++ cons_option o []) ++ rest ≡ found ++ cons_option o rest
put_front found rest None = append_assoc found [] rest
put_front found rest (Some x) = append_assoc found (x ∷ []) rest

pub symbol_found : (strings : List ℕ) (count i : ℕ) (rest after : List ℕ) (found all : List Named) (o : Option Named) → i < count
    → o ≡ kept strings (symbol_entry rest) → after ≡ drop 16 rest
    → found ++ symbols_among strings (records symbol_entry 16 (count - i) rest) ≡ all → (found ++ cons_option o []) ++ symbols_among strings (records symbol_entry 16 (count - (i + 1)) after) ≡ all
symbol_found strings count i rest after found all o h o-is after-is so_far =
    put_front found (symbols_among strings (records symbol_entry 16 (count - (i + 1)) after)) o
    ∙ ap (λ t. found ++ cons_option o (symbols_among strings (records symbol_entry 16 (count - (i + 1)) t))) after-is
    ∙ ap (λ p. found ++ cons_option p (symbols_among strings (records symbol_entry 16 (count - (i + 1)) (drop 16 rest)))) o-is
    ∙ ap (λ t. found ++ t) (sym (symbols_more strings count i rest h)) ∙ so_far

pub symbols_done : (strings : List ℕ) (count i : ℕ) (rest : List ℕ) (found all : List Named) → count ≤ i
    → found ++ symbols_among strings (records symbol_entry 16 (count - i) rest) ≡ all → found ≡ all
unfolding symbols_among
symbols_done strings count i rest found all h so_far =
    let k : count - i ≡ 0 = omega arith in
    let none : found ++ symbols_among strings (records symbol_entry 16 (count - i) rest) ≡ found = ap (λ n. found ++ symbols_among strings (records symbol_entry 16 n rest)) k ∙ append-nil found in
    sym none ∙ so_far
