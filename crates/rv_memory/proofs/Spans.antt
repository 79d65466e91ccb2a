-- What memory's tests say follows from its spans alone, and a store leaves those as they were.
use Rattle.std.proofs.Common.{◌≡◌, ℕ, ◌+◌, ◌-◌, ◌^◌, cond, ltb, ◌/◌, ◌%◌, zero, suc, Bool, true, false, ◌&&◌, List, [], ◌∷◌, map, sum_by, length, set, get_or, refl, ap, sym, ◌∙◌, arith, None, ◌<◌}
use Rattle.std.specs.List.{list_any}
use Rattle.std.proofs.lemmas.List.Sums.{sum_by-cons}
use Rattle.std.proofs.lemmas.List.{map-set, set-get_or, get_or-map}
use Rattle.rv_memory.specs.Extent.{Extent, span, end_of}
use Rattle.rv_memory.specs.Memory.{Memory, covers, holds, allows, permits, meets, overlaps, fault_of, set_byte, store, memory_of}
use Rattle.rv_memory.specs.declared.store.Need.{Need}
use Rattle.rv_memory.specs.declared.store.Need.TheVariants.{Nothing, Read, Write, ReadWrite, Execute}

-- a test that reads no bytes, over the spans
pub list_any-spans : (p : Extent → Bool) → ((e : Extent) → p (span e) ≡ p e) → (m : Memory) → list_any p (map span m) ≡ list_any p m
list_any-spans p reads_none [] = refl
list_any-spans p reads_none (e ∷ es) = rw (reads_none e, list_any-spans p reads_none es) refl

pub sum_by-spans : (m : Memory) → sum_by (λ e. e.len) (map span m) ≡ sum_by (λ e. e.len) m
sum_by-spans [] = refl
sum_by-spans (e ∷ es) =
    sum_by-cons (λ e. e.len) (span e) (map span es) ∙ ap (λ n. e.len + n) (sum_by-spans es) ∙ sym (sum_by-cons (λ e. e.len) e es)

pub overlaps-spans : (m : Memory) → overlaps (map span m) ≡ overlaps m
overlaps-spans [] = refl
overlaps-spans (e ∷ es) = rw (list_any-spans (meets e) (λ _. refl) es, overlaps-spans es) refl

allows-span : (e : Extent) (need : Need) → allows (span e) need ≡ allows e need
allows-span e Nothing = refl
allows-span e Read = refl
allows-span e Write = refl
allows-span e ReadWrite = refl
allows-span e Execute = refl

pub permits-spans : (m : Memory) (address size : ℕ) (need : Need) → permits (map span m) address size need ≡ permits m address size need
permits-spans m address size need = list_any-spans (λ e. holds e address size && allows e need) (λ e. ap (λ b. holds e address size && b) (allows-span e need)) m

pub fault_of-spans : (m : Memory) → fault_of (map span m) ≡ fault_of m
fault_of-spans m = rw (list_any-spans (λ e. ltb (2 ^ 32) (end_of e)) (λ _. refl) m, overlaps-spans m, sum_by-spans m) refl

pub spans-set_byte : (m : Memory) (address value : ℕ) → map span (set_byte m address value) ≡ map span m
spans-set_byte [] address value = refl
spans-set_byte (e ∷ es) address value =
    elim (covers e address) as (λ b. map span (cond b (record e { bytes = set e.bytes (address - e.start) value } ∷ es) (e ∷ set_byte es address value)) ≡ map span (e ∷ es))
    [ true ↦ refl | false ↦ ap (λ rest. span e ∷ rest) (spans-set_byte es address value) ]

pub spans-store : (m : Memory) (address size value : ℕ) → map span (store m address size value) ≡ map span m
spans-store m address zero value = refl
spans-store m address (suc size) value =
    spans-store (set_byte m address (value % 256)) (address + 1) size (value / 256) ∙ spans-set_byte m address (value % 256)

pub spans-memory_of : (es : List Extent) → map span (memory_of es) ≡ map span es
spans-memory_of [] = refl
spans-memory_of (e ∷ es) = ap (λ rest. span e ∷ rest) (spans-memory_of es)

-- two memories of the same spans have the same faults
pub same_fault : (m k : Memory) → map span m ≡ map span k → fault_of m ≡ fault_of k
same_fault m k same = sym (fault_of-spans m) ∙ ap fault_of same ∙ fault_of-spans k

pub same_overlaps : (m k : Memory) → map span m ≡ map span k → overlaps m ≡ overlaps k
same_overlaps m k same = sym (overlaps-spans m) ∙ ap overlaps same ∙ overlaps-spans k

-- the bytes of the extent at a place put in anew
abbrev pub with_bytes : Memory → ℕ → Extent → List ℕ → Memory
with_bytes m place d bytes = set m place (record (get_or m place d) { bytes = bytes })

pub spans-with_bytes : (m : Memory) (place : ℕ) (d : Extent) (bytes : List ℕ) → place < length m → map span (with_bytes m place d bytes) ≡ map span m
spans-with_bytes m place d bytes h =
    map-set span m place (record (get_or m place d) { bytes = bytes }) ∙ ap (λ e. set (map span m) place e) (sym (get_or-map span m place d (span d) h)) ∙ set-get_or (map span m) place (span d)

pub no_overlap : (m : Memory) → fault_of m ≡ None → overlaps m ≡ false
no_overlap m h = grind arith
