-- A store that changes nothing in one memory changes nothing in another with the same bytes there.
use Rattle.std.proofs.Common.{◌≡◌, ℕ, zero, suc, ◌+◌, ◌*◌, ◌-◌, ◌/◌, ◌%◌, ◌<◌, ◌≤◌, ◌⊎◌, inl, inr, Bool, true, false, cond, List, [], ◌∷◌, Option, Some, None, set, refl, sym, ap, subst, ◌∙◌, arith}
use Rattle.std.specs.Prelude.{slice_get, unwrap_or}
use Rattle.std.proofs.lemmas.Bool.Decides.{nat_tests}
use Rattle.rv_memory.specs.Extent.{Extent}
use Rattle.rv_memory.specs.Memory.{Memory, byte, covers, load, set_byte, store}
use Rattle.rv_memory.specs.MemoryLaws.{StoreKeepsOtherBytes}
use Rattle.rv_waits.specs.Touches.{is_among}

-- the same bytes at so many addresses from the first on
abbrev pub SameBytes : Memory → Memory → ℕ → ℕ → Type 0
SameBytes m n first size = (address : ℕ) → is_among first size address ≡ true → byte n address ≡ byte m address

among_first : (first size : ℕ) → is_among first (suc size) first ≡ true
among_first first size = grind (arith, nat_tests)

among_more : (first size address : ℕ) → is_among (first + 1) size address ≡ true → is_among first (suc size) address ≡ true
among_more first size address h = grind (arith, nat_tests)

pub same_load : (m n : Memory) (first size : ℕ) → SameBytes m n first size → load n first size ≡ load m first size
same_load m n first zero same = refl
same_load m n first (suc size) same =
    let here : byte n first ≡ byte m first = same first (among_first first size) in
    let rest : load n (first + 1) size ≡ load m (first + 1) size = same_load m n (first + 1) size (λ address h. same address (among_more first size address h)) in
    ap (λ (o : Option ℕ). unwrap_or o 0 + 256 * load n (first + 1) size) here ∙ ap (λ (k : ℕ). unwrap_or (byte m first) 0 + 256 * k) rest

-- ---- where an address lies

pub from_first : (first size address : ℕ) → is_among first size address ≡ true → first ≤ address
from_first first size address h = grind (arith, nat_tests)

pub to_last : (first size address : ℕ) → is_among first size address ≡ true → address < first + size
to_last first size address h = grind (arith, nat_tests)

-- ---- one byte

-- there is no byte at the address, or this one
abbrev Has : Option ℕ → ℕ → Type 0
Has o value = (o ≡ None) ⊎ (o ≡ Some value)

set_idle : (xs : List ℕ) (i value : ℕ) → Has (slice_get xs i) value → set xs i value ≡ xs
set_idle [] i value h = refl
set_idle (x ∷ xs) zero value (inl e) = cc
set_idle (x ∷ xs) zero value (inr e) = let same : x ≡ value = cc in ap (λ (y : ℕ). y ∷ xs) (sym same)
set_idle (x ∷ xs) (suc i) value h = ap (λ (ys : List ℕ). x ∷ ys) (set_idle xs i value h)

set_read : (xs : List ℕ) (i value : ℕ) → slice_get (set xs i value) i ≡ slice_get xs i → Has (slice_get xs i) value
set_read [] i value h = inl refl
set_read (x ∷ xs) zero value h = inr (sym h)
set_read (x ∷ xs) (suc i) value h = set_read xs i value h

same_extent : (e : Extent) (bytes : List ℕ) → bytes ≡ e.bytes → record e { bytes = bytes } ≡ e
same_extent e bytes h = rw h refl

set_byte_if : (b : Bool) (e : Extent) (es : List Extent) (address value : ℕ) → covers e address ≡ b → Has (cond b (slice_get e.bytes (address - e.start)) (byte es address)) value → (Has (byte es address) value → set_byte es address value ≡ es) → cond b (record e { bytes = set e.bytes (address - e.start) value } ∷ es) (e ∷ set_byte es address value) ≡ e ∷ es
set_byte_if true e es address value c h rest = ap (λ (x : Extent). x ∷ es) (same_extent e _ (set_idle e.bytes (address - e.start) value h))
set_byte_if false e es address value c h rest = ap (λ (xs : List Extent). e ∷ xs) (rest h)

set_byte_idle : (m : Memory) (address value : ℕ) → Has (byte m address) value → set_byte m address value ≡ m
set_byte_idle [] address value h = refl
set_byte_idle (e ∷ es) address value h = set_byte_if (covers e address) e es address value refl h (set_byte_idle es address value)

byte_if : (b : Bool) (e : Extent) (es : List Extent) (address value : ℕ) → covers e address ≡ b →
    byte (cond b (record e { bytes = set e.bytes (address - e.start) value } ∷ es) (e ∷ set_byte es address value)) address ≡ cond b (slice_get (set e.bytes (address - e.start) value) (address - e.start)) (byte (set_byte es address value) address)
byte_if true e es address value c = rw c refl
byte_if false e es address value c = rw c refl

read_if : (b : Bool) (e : Extent) (es : List Extent) (address value : ℕ) → cond b (slice_get (set e.bytes (address - e.start) value) (address - e.start)) (byte (set_byte es address value) address) ≡ cond b (slice_get e.bytes (address - e.start)) (byte es address) →
    (byte (set_byte es address value) address ≡ byte es address → Has (byte es address) value) → Has (cond b (slice_get e.bytes (address - e.start)) (byte es address)) value
read_if true e es address value h rest = set_read e.bytes (address - e.start) value h
read_if false e es address value h rest = rest h

-- where a byte that is set is as it was, it was that byte
set_byte_read : (m : Memory) (address value : ℕ) → byte (set_byte m address value) address ≡ byte m address → Has (byte m address) value
set_byte_read [] address value h = inl refl
set_byte_read (e ∷ es) address value h =
    read_if (covers e address) e es address value (sym (byte_if (covers e address) e es address value refl) ∙ h) (set_byte_read es address value)

-- ---- a store

pub store_idle : StoreKeepsOtherBytes → (m n : Memory) (first size value : ℕ) → SameBytes m n first size → store m first size value ≡ m → store n first size value ≡ n
store_idle keeps m n first zero value same e = refl
store_idle keeps m n first (suc size) value same e =
    let one : Memory = set_byte m first (value % 256) in
    let apart : byte (store one (first + 1) size (value / 256)) first ≡ byte one first = keeps one (first + 1) size (value / 256) first (inl (omega arith)) in
    let had : Has (byte m first) (value % 256) = set_byte_read m first (value % 256) (sym apart ∙ ap (λ (x : Memory). byte x first) e) in
    let one_is : one ≡ m = set_byte_idle m first (value % 256) had in
    let rest : store m (first + 1) size (value / 256) ≡ m = ap (λ (x : Memory). store x (first + 1) size (value / 256)) (sym one_is) ∙ e in
    let here : byte n first ≡ byte m first = same first (among_first first size) in
    let other : set_byte n first (value % 256) ≡ n = set_byte_idle n first (value % 256) (subst (λ (o : Option ℕ). Has o (value % 256)) (sym here) had) in
    ap (λ (x : Memory). store x (first + 1) size (value / 256)) other ∙ store_idle keeps m n (first + 1) size (value / 256) (λ address h. same address (among_more first size address h)) rest

-- a store after which its own bytes are as before has changed nothing
pub store_same : StoreKeepsOtherBytes → (m : Memory) (first size value : ℕ) → SameBytes m (store m first size value) first size → store m first size value ≡ m
store_same keeps m first zero value same = refl
store_same keeps m first (suc size) value same =
    let one : Memory = set_byte m first (value % 256) in
    let apart : byte (store one (first + 1) size (value / 256)) first ≡ byte one first = keeps one (first + 1) size (value / 256) first (inl (omega arith)) in
    let had : Has (byte m first) (value % 256) = set_byte_read m first (value % 256) (sym apart ∙ same first (among_first first size)) in
    let one_is : one ≡ m = set_byte_idle m first (value % 256) had in
    let here : store one (first + 1) size (value / 256) ≡ store m (first + 1) size (value / 256) = ap (λ (x : Memory). store x (first + 1) size (value / 256)) one_is in
    here ∙ store_same keeps m (first + 1) size (value / 256) (λ address h. ap (λ (x : Memory). byte x address) (sym here) ∙ same address (among_more first size address h))
