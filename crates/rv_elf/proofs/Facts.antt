-- What tests that passed say.
use Rattle.std.proofs.Common.{◌≡◌, ℕ, ◌+◌, ◌-◌, ◌%◌, ◌^◌, ◌<◌, ◌≤◌, Bool, true, false, ◌&&◌, not, cond, eqb, leb, ltb, Option, Some, None, List, [], ◌∷◌, map, length, drop, All, Result, Ok, Err, refl, sym, ap, subst, inl, inr, ◌∙◌, arith}
use Rattle.std.specs.Prelude.{IsTrue, is_some, is_ok}
use Rattle.std.specs.List.{AllByRecursion, filter, list_all, sum_by}
use Rattle.std.specs.Option.{option_map}
use Rattle.std.specs.Str.{is_utf8}
use Rattle.std.proofs.lemmas.List.Elements.{All-from_recursion, recursion_from_All}
use Rattle.std.proofs.lemmas.Bool.{cases_lt, lt-leb, and_from, and_parts, eq-eqb, eqb-true, eqb-false, le-leb, leb-true, not-true, lt-ltb}
use Rattle.std.proofs.lemmas.List.{length-take, map-id}
use Rattle.rv_memory.specs.Extent.{Extent}
use Rattle.rv_memory.specs.Memory.{overlaps, permits}
use Rattle.rv_memory.specs.declared.store.Need.TheVariants.{Execute}
use Rattle.rv_elf.specs.declared.fault.LoadFault.{LoadFault}
use Rattle.rv_elf.specs.declared.fault.LoadFault.TheVariants.{Truncated, FileLongerThanMemory, PastEnd, Overlap, TooLarge, BadEntry, BadSymbols}
use Rattle.rv_elf.specs.declared.layout.ProgramHeader.{ProgramHeader}
use Rattle.rv_elf.specs.declared.layout.SymbolEntry.{SymbolEntry}
use Rattle.rv_elf.specs.Contents.{Named, stacks, need_of, IsSegment, IsSymbol, AreSegments}
use Rattle.rv_elf.specs.Layout.{part}
use Rattle.rv_elf.specs.internal.Steps.{room_after}
use Rattle.rv_memory.specs.Chain.{◌>>=◌, want}
use Rattle.rv_elf.specs.Loaded.{is_loaded, segment, segment_test, each_segment_test, segments_test, is_candidate, text, name_of, symbol, symbol_named, kept, symbols_among, entries_test}

abbrev passed : Result (Unit {0}) LoadFault
passed = Ok tt

abbrev some_of : {A : Type 0} → A → Option A
some_of x = Some x

-- a test that passed in front of others, and the last one
pub want_then : (b : Bool) (fault : LoadFault) (rest : Result (Unit {0}) LoadFault) → (want b fault >>= λ _. rest) ≡ passed → (b ≡ true) × (rest ≡ passed)
want_then true fault rest e = (refl, e)
want_then false fault rest e = absurd cc

pub want_ok : (b : Bool) (fault : LoadFault) → want b fault ≡ passed → b ≡ true
want_ok true fault e = refl
want_ok false fault e = absurd cc

pub then_ok : (first rest : Result (Unit {0}) LoadFault) → (first >>= λ _. rest) ≡ passed → (first ≡ passed) × (rest ≡ passed)
then_ok (Ok x) rest e = (refl, e)
then_ok (Err fault) rest e = absurd cc

pub same_some : {A : Type 0} (x y : A) → some_of x ≡ some_of y → x ≡ y
same_some x y e = cc

abbrev ok_of : ℕ → Result ℕ LoadFault
ok_of n = Ok n

same_ok : (m n : ℕ) → ok_of m ≡ ok_of n → m ≡ n
same_ok m n e = cc

ok_is_err : (n : ℕ) → ok_of n ≡ Err BadSymbols → ⊥
ok_is_err n e = absurd cc

-- a choice that gave something
cond_is : {A : Type 0} (b : Bool) (o : Option A) (x : A) → cond b o None ≡ some_of x → (b ≡ true) × (o ≡ some_of x)
cond_is true o x e = (refl, e)
cond_is false o x e = absurd cc

cond_is_some : {A : Type 0} (b : Bool) (y x : A) → cond b (Some y) None ≡ some_of x → (b ≡ true) × (y ≡ x)
cond_is_some b y x e = let a = cond_is b (Some y) x e in (a.0, same_some y x a.1)

-- ---- segments

-- what `segments_test` tests
pub record AreApart (entry : ℕ) (segments : List Extent) : Type 0 where
  pub apart : overlaps (stacks ∷ segments) ≡ false
  pub small : sum_by (λ s. s.len) segments ≤ 16_777_216
  pub aligned : entry % 4 ≡ 0
  pub executable : permits segments entry 4 Execute ≡ true

pub apart_from_test : (entry : ℕ) (segments : List Extent) → segments_test entry segments ≡ passed → AreApart entry segments
unfolding segments_test
apart_from_test entry segments e =
    let entered : Bool = eqb (entry % 4) 0 && permits segments entry 4 Execute in
    let small : Bool = leb (sum_by (λ s. s.len) segments) 16_777_216 in
    let a = want_then (not (overlaps (stacks ∷ segments))) Overlap (want small TooLarge >>= λ _. want entered BadEntry) e in
    let b = want_then small TooLarge (want entered BadEntry) a.1 in
    let d = and_parts (eqb (entry % 4) 0) (permits segments entry 4 Execute) (want_ok entered BadEntry b.1) in
    record { apart = not-true _ a.0; small = leb-true _ _ b.0; aligned = eqb-true _ _ d.0; executable = d.1 }

pub test_from_apart : (entry : ℕ) (segments : List Extent) → AreApart entry segments → segments_test entry segments ≡ passed
unfolding segments_test
test_from_apart entry segments h =
    rw (h.apart, le-leb (sum_by (λ s. s.len) segments) 16_777_216 h.small, eq-eqb (entry % 4) 0 h.aligned, h.executable) refl

segment_is : (bytes : List ℕ) (h : ProgramHeader) → is_loaded h ≡ true → segment_test bytes h ≡ passed → IsSegment (segment bytes h)
unfolding segment_test
segment_is bytes h loaded e =
    let past : Bool = leb (h.p_vaddr + h.p_memsz) (2 ^ 32) in
    let given : Bool = is_some (part h.p_offset h.p_filesz bytes) in
    let a = want_then (leb h.p_filesz h.p_memsz) FileLongerThanMemory (want given Truncated >>= λ _. want past PastEnd) e in
    let b = want_then given Truncated (want past PastEnd) a.1 in
    let some = eqb-false h.p_memsz 0 (not-true _ (and_parts (eqb h.p_type 1) (not (eqb h.p_memsz 0)) loaded).1) in
    record {
      some = omega (arith, some);
      within = omega (arith, leb-true h.p_filesz h.p_memsz a.0, length-take h.p_filesz (drop h.p_offset bytes));
      ends = leb-true (h.p_vaddr + h.p_memsz) (2 ^ 32) (want_ok past PastEnd b.1);
    }

each_is : (bytes : List ℕ) (hs : List ProgramHeader) → AllByRecursion (λ h. IsTrue (is_loaded h)) hs → each_segment_test bytes hs ≡ passed → AllByRecursion IsSegment (map (segment bytes) hs)
unfolding each_segment_test
each_is bytes [] loaded e = tt
each_is bytes (h ∷ hs) loaded e =
    let a = then_ok (segment_test bytes h) (each_segment_test bytes hs) e in
    (segment_is bytes h loaded.0 a.0, each_is bytes hs loaded.1 a.1)

-- headers that passed describe segments
pub segments_are : (bytes : List ℕ) (hs : List ProgramHeader) → All (λ h. IsTrue (is_loaded h)) hs → each_segment_test bytes hs ≡ passed → All IsSegment (map (segment bytes) hs)
segments_are bytes hs loaded e =
    All-from_recursion IsSegment (map (segment bytes) hs) (each_is bytes hs (recursion_from_All (λ h. IsTrue (is_loaded h)) hs loaded) e)

-- ---- symbols

unbroken_cons : (is_zero : Bool) (b : ℕ) (rest : Option (List ℕ)) (found : List ℕ) → eqb b 0 ≡ is_zero → ((t : List ℕ) → rest ≡ Some t → list_all (λ c. ltb 0 c) t ≡ true)
    → cond is_zero (Some []) (option_map (λ t. b ∷ t) rest) ≡ some_of found → list_all (λ c. ltb 0 c) found ≡ true
unbroken_cons true b rest found h ih e = subst (λ (t : List ℕ). list_all (λ c. ltb 0 c) t ≡ true) (same_some [] found e) refl
unbroken_cons false b None found h ih e = absurd cc
unbroken_cons false b (Some t) found h ih e =
    let some : b ≡ 0 → ⊥ = eqb-false b 0 h in
    subst (λ (u : List ℕ). list_all (λ c. ltb 0 c) u ≡ true) (same_some (b ∷ t) found e) (and_from (ltb 0 b) (list_all (λ c. ltb 0 c) t) (lt-ltb 0 b (omega (arith, some))) (ih t refl))

-- the bytes before the first zero byte have none
text_unbroken : (bytes found : List ℕ) → text bytes ≡ Some found → list_all (λ c. ltb 0 c) found ≡ true
text_unbroken [] found e = absurd cc
text_unbroken (b ∷ bytes) found e =
    unbroken_cons (eqb b 0) b (text bytes) found refl (λ t h. text_unbroken bytes t h) e

named_is : (s : SymbolEntry) (name : Option (List ℕ)) (x : Named) → s.st_info % 16 ≤ 2 → s.st_value < 2 ^ 32 → s.st_size < 2 ^ 32
    → ((t : List ℕ) → name ≡ Some t → list_all (λ c. ltb 0 c) t ≡ true) → symbol_named s name ≡ Some x → IsSymbol x
named_is s None x kind value size unbroken e = absurd cc
named_is s (Some name) x kind value size unbroken e =
    let a = cond_is_some (is_utf8 name && leb 1 (length name)) (symbol s name) x e in
    let b = and_parts (is_utf8 name) (leb 1 (length name)) a.0 in
    subst IsSymbol a.1 (record { kind = kind; some = leb-true 1 (length name) b.1; text = b.0; unbroken = unbroken name refl; value = value; size = size })

-- what is kept of an entry is a symbol
pub kept_is : (strings : List ℕ) (s : SymbolEntry) (x : Named) → s.st_value < 2 ^ 32 → s.st_size < 2 ^ 32 → kept strings s ≡ Some x → IsSymbol x
kept_is strings s x value size e =
    let a = cond_is (is_candidate s) (symbol_named s (name_of strings s)) x e in
    let b = and_parts (leb (s.st_info % 16) 2 && not (eqb s.st_shndx 0)) (not (eqb s.st_name 0)) a.0 in
    let d = and_parts (leb (s.st_info % 16) 2) (not (eqb s.st_shndx 0)) b.0 in
    named_is s (name_of strings s) x (leb-true _ _ d.0) value size (λ t h. text_unbroken (drop s.st_name strings) t h) a.1

-- entries that passed make symbols that are small together
pub small_from_test : (room : ℕ) (strings : List ℕ) (entries : List SymbolEntry) → entries_test room strings entries ≡ passed → sum_by need_of (symbols_among strings entries) ≤ room
unfolding entries_test
small_from_test room strings entries e =
    let small : Bool = leb (sum_by need_of (symbols_among strings entries)) room in
    let a = want_then (list_all (λ s. is_some (name_of strings s)) (filter is_candidate entries)) BadSymbols (want small BadSymbols) e in
    leb-true _ _ (want_ok small BadSymbols a.1)

-- ---- parts of an image that was not loaded

pub ok_unit : (r : Result (Unit {0}) LoadFault) → is_ok r ≡ true → r ≡ passed
ok_unit (Ok x) e = refl
ok_unit (Err fault) e = absurd cc

pub segments_from : (entry : ℕ) (segments : List Extent) (result : Result (Unit {0}) LoadFault) → length segments ≤ 64 → All IsSegment segments
    → result ≡ segments_test entry (map (λ e. e) segments) → is_ok result ≡ true → AreSegments entry segments
segments_from entry segments result few each is ok =
    let h = apart_from_test entry segments (ap (segments_test entry) (sym (map-id segments)) ∙ sym is ∙ ok_unit result ok) in
    record { few = few; each = each; apart = h.apart; small = h.small; aligned = h.aligned; executable = h.executable }

pub segments_back : (entry : ℕ) (segments : List Extent) (result : Result (Unit {0}) LoadFault)
    → result ≡ segments_test entry (map (λ e. e) segments) → AreSegments entry segments → is_ok result ≡ true
segments_back entry segments result is h =
    ap is_ok (is ∙ ap (segments_test entry) (map-id segments) ∙ test_from_apart entry segments (record { apart = h.apart; small = h.small; aligned = h.aligned; executable = h.executable }))

-- the room that a symbol takes
pub room_left : (room left : ℕ) (name : List ℕ) → Ok left ≡ room_after room name → left + (17 + length name) ≡ room
room_left room left name e =
    elim (cases_lt room (17 + length name)) [
      | inl lt ↦ let short : room_after room name ≡ Err BadSymbols = ap (λ b. cond b (Ok (room - (17 + length name))) (Err BadSymbols)) (lt-leb (17 + length name) room lt) in absurd (ok_is_err left (e ∙ short))
      | inr le ↦ let fits : room_after room name ≡ Ok (room - (17 + length name)) = ap (λ b. cond b (Ok (room - (17 + length name))) (Err BadSymbols)) (le-leb (17 + length name) room le) in
          let is = same_ok left (room - (17 + length name)) (e ∙ fits) in omega arith
    ]
