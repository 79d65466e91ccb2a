-- Where no two extents meet, an address lies in one of them at most, whose bytes are then what
-- memory reads and writes.
use Rattle.std.proofs.Common.{◌≡◌, ℕ, ◌+◌, ◌-◌, ◌*◌, ◌/◌, ◌%◌, ◌≤◌, ◌<◌, zero, suc, Bool, true, false, ◌||◌, List, [], ◌∷◌, length, set, get_or, refl, ap, sym, ◌∙◌, arith, leb, HoldsAt, IsTrue}
use Rattle.std.specs.List.{list_any}
use Rattle.std.specs.Prelude.{slice_get, unwrap_or, Some}
use Rattle.rv_memory.specs.declared.store.Need.{Need}
use Rattle.std.proofs.lemmas.Option.{unwrap_or-slice_get}
use Rattle.std.proofs.lemmas.List.{set-get_or, set-set, get_or-set_same, length-set}
use Rattle.std.proofs.lemmas.Bool.{and_parts, leb-true}
use Rattle.std.proofs.lemmas.Bool.Decides.{nat_tests}
use Rattle.rv_memory.specs.Extent.{Extent, end_of}
use Rattle.rv_memory.specs.Memory.{Memory, byte, covers, meets, overlaps, holds, load, set_byte, store, permits, load_permitted}
use Rattle.rv_memory.specs.Sound.{IsSound}
use Rattle.rv_memory.specs.internal.Flat.{number_at, put_at}
use Rattle.rv_memory.proofs.Spans.{with_bytes, spans-with_bytes, same_overlaps, no_overlap}

apart : (a b : Extent) (address : ℕ) → meets a b ≡ false → covers b address ≡ true → covers a address ≡ false
apart a b address h k = grind (arith, nat_tests)

pub or_parts : (x y : Bool) → (x || y) ≡ false → (x ≡ false) × (y ≡ false)
or_parts true y h = (h, cc)
or_parts false y h = (refl, h)

pub meets_none : (e d : Extent) (es : Memory) (place : ℕ) → list_any (meets e) es ≡ false → place < length es → meets e (get_or es place d) ≡ false
meets_none e d [] place h k = absurd (omega arith)
meets_none e d (x ∷ xs) zero h k = (or_parts (meets e x) _ h).0
meets_none e d (x ∷ xs) (suc place) h k = meets_none e d xs place (or_parts (meets e x) _ h).1 (omega arith)

pub byte_at : (m : Memory) (place : ℕ) (d : Extent) (address : ℕ) → overlaps m ≡ false → place < length m → covers (get_or m place d) address ≡ true → byte m address ≡ slice_get (get_or m place d).bytes (address - (get_or m place d).start)
byte_at [] place d address h k c = absurd (omega arith)
byte_at (e ∷ es) zero d address h k c = rw c refl
byte_at (e ∷ es) (suc place) d address h k c =
    let parts = or_parts (list_any (meets e) es) (overlaps es) h in
    let below : place < length es = omega arith in
    rw (apart e (get_or es place d) address (meets_none e d es place parts.0 below) c) (byte_at es place d address parts.1 below c)

pub set_byte_at : (m : Memory) (place : ℕ) (d : Extent) (address value : ℕ) → overlaps m ≡ false → place < length m → covers (get_or m place d) address ≡ true → set_byte m address value ≡ with_bytes m place d (set (get_or m place d).bytes (address - (get_or m place d).start) value)
set_byte_at [] place d address value h k c = absurd (omega arith)
set_byte_at (e ∷ es) zero d address value h k c = rw c refl
set_byte_at (e ∷ es) (suc place) d address value h k c =
    let parts = or_parts (list_any (meets e) es) (overlaps es) h in
    let below : place < length es = omega arith in
    rw (apart e (get_or es place d) address (meets_none e d es place parts.0 below) c) (ap (λ rest. e ∷ rest) (set_byte_at es place d address value parts.1 below c))

-- the bytes from an address on lie in the extent at a place
pub record LieAt (m : Memory) (place : ℕ) (d : Extent) (address size : ℕ) : Type 0 where
  pub apart : overlaps m ≡ false
  pub below : place < length m
  pub start : (get_or m place d).start ≤ address
  pub end : address + size ≤ end_of (get_or m place d)

covers_first : (e : Extent) (address size : ℕ) → e.start ≤ address → address + suc size ≤ end_of e → covers e address ≡ true
covers_first e address size h k = grind (arith, nat_tests)

pub load_at : (m : Memory) (place : ℕ) (d : Extent) (address size : ℕ) → LieAt m place d address size → load m address size ≡ number_at (get_or m place d).bytes (address - (get_or m place d).start) size
load_at m place d address zero h = refl
load_at m place d address (suc size) h =
    let e : Extent = get_or m place d in
    let first = byte_at m place d address h.apart h.below (covers_first e address size h.start h.end) in
    let more : LieAt m place d (address + 1) size = record { apart = h.apart; below = h.below; start = omega arith; end = omega arith } in
    let next : (address + 1) - e.start ≡ (address - e.start) + 1 = omega arith in
    ap (λ o. unwrap_or o 0 + 256 * load m (address + 1) size) first ∙ ap (λ n. n + 256 * load m (address + 1) size) (unwrap_or-slice_get e.bytes (address - e.start) 0)
    ∙ ap (λ n. get_or e.bytes (address - e.start) 0 + 256 * n) (load_at m place d (address + 1) size more ∙ ap (λ k. number_at e.bytes k size) next)

pub store_at : (m : Memory) (place : ℕ) (d : Extent) (address size value : ℕ) → LieAt m place d address size → store m address size value ≡ with_bytes m place d (put_at (get_or m place d).bytes (address - (get_or m place d).start) size value)
store_at m place d address zero value h = sym (set-get_or m place d)
store_at m place d address (suc size) value h =
    let e : Extent = get_or m place d in
    let bytes : List ℕ = set e.bytes (address - e.start) (value % 256) in
    let m' : Memory = with_bytes m place d bytes in
    let first = set_byte_at m place d address (value % 256) h.apart h.below (covers_first e address size h.start h.end) in
    let got : get_or m' place d ≡ record e { bytes = bytes } = get_or-set_same m place _ d h.below in
    let more : LieAt m' place d (address + 1) size =
    record {
      apart = same_overlaps m' m (spans-with_bytes m place d bytes h.below) ∙ h.apart;
      below = rw length-set h.below;
      start = rw got (omega arith);
      end = rw got (omega arith);
    } in
    let next : (address + 1) - e.start ≡ (address - e.start) + 1 = omega arith in
    let put : Extent → Memory = λ x. set m' place (record x { bytes = put_at x.bytes ((address + 1) - x.start) size (value / 256) }) in
    ap (λ k. store k (address + 1) size (value / 256)) first ∙ store_at m' place d (address + 1) size (value / 256) more ∙ ap put got ∙ set-set m place _ _
    ∙ ap (λ k. with_bytes m place d (put_at bytes k size (value / 256))) next

-- memory as a store keeps it, and the place of an extent that the bytes lie in
pub lie_at : (m : Memory) (place : ℕ) (d : Extent) (address size : ℕ) → IsSound m → place < length m → holds (get_or m place d) address size ≡ true → LieAt m place d address size
lie_at m place d address size sound below h =
    let parts = and_parts (leb (get_or m place d).start address) (leb (address + size) (end_of (get_or m place d))) h in
    record { apart = no_overlap m sound.no_fault; below = below; start = leb-true _ _ parts.0; end = leb-true _ _ parts.1 }

pub load_found : (m : Memory) (place : ℕ) (e : Extent) (address size : ℕ) → IsSound m → place < length m → HoldsAt (λ x. IsTrue (holds x address size)) m place → e ≡ get_or m place e → load m address size ≡ number_at e.bytes (address - e.start) size
load_found m place e address size sound below h is =
    load_at m place e address size (lie_at m place e address size sound below (h e)) ∙ ap (λ x. number_at x.bytes (address - x.start) size) (sym is)

pub permitted_found : (m : Memory) (place : ℕ) (e : Extent) (address size loaded : ℕ) (need : Need) → IsSound m → place < length m → HoldsAt (λ x. IsTrue (holds x address size)) m place → e ≡ get_or m place e → IsTrue (permits m address size need) → loaded ≡ number_at e.bytes (address - e.start) size → load_permitted m address size need ≡ Some loaded
permitted_found m place e address size loaded need sound below h is permitted read = rw (permitted, load_found m place e address size sound below h is, read) refl

pub store_found : (m : Memory) (place : ℕ) (e : Extent) (address size value : ℕ) → IsSound m → place < length m → HoldsAt (λ x. IsTrue (holds x address size)) m place → e ≡ get_or m place e → set m place (record e { bytes = put_at e.bytes (address - e.start) size value }) ≡ store m address size value
store_found m place e address size value sound below h is =
    ap (λ x. set m place (record x { bytes = put_at x.bytes (address - x.start) size value })) is
    ∙ sym (store_at m place e address size value (lie_at m place e address size sound below (h e)))
