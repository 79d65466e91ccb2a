-- What a store leaves alone, and what it leaves to be read.
use Rattle.std.proofs.Common.{◌≡◌, ℕ, ◌+◌, ◌-◌, ◌*◌, ◌/◌, ◌%◌, ◌^◌, ◌≤◌, ◌<◌, ◌⊎◌, inl, inr, zero, suc, true, false, ◌&&◌, cond, is_some, List, [], ◌∷◌, length, set, get_or, refl, ap, sym, ◌∙◌, arith, leb, All, IsTrue}
use Rattle.std.specs.Prelude.{slice_get}
use Rattle.std.specs.List.{list_any}
use Rattle.std.proofs.Math.Arith.{mod-mul}
use Rattle.std.proofs.Math.Nat.{pow-suc}
use Rattle.std.proofs.lemmas.Bool.{cases_Bool, and_parts, leb-true}
use Rattle.std.proofs.lemmas.Option.{slice_get-get_or}
use Rattle.std.proofs.lemmas.List.{get_or-set_same, get_or-set_other, length-set}
use Rattle.std.proofs.lemmas.List.Folds.{Any-from_list_any}
use Rattle.std.proofs.lemmas.List.Elements.{All-head, All-tail}
use Rattle.rv_memory.specs.Extent.{Extent, IsFull, end_of}
use Rattle.rv_memory.specs.Memory.{Memory, byte, covers, holds, allows, permits, load, set_byte, store, overlaps}
use Rattle.rv_memory.specs.internal.Flat.{number_at, put_at}
use Rattle.rv_memory.specs.declared.store.Need.{Need}
use Rattle.rv_memory.specs.declared.store.Need.TheVariants.{Nothing}
use Rattle.rv_memory.proofs.Spans.{with_bytes, spans-with_bytes, same_overlaps, permits-spans, spans-store}
use Rattle.rv_memory.proofs.Places.{LieAt, load_at, store_at}

-- one byte put into a list, and another place read
slice_get-set_other : (bytes : List ℕ) (place other value : ℕ) → (other ≡ place → ⊥) → slice_get (set bytes place value) other ≡ slice_get bytes other
slice_get-set_other [] place other value apart = refl
slice_get-set_other (b ∷ bs) zero zero value apart = absurd (apart refl)
slice_get-set_other (b ∷ bs) zero (suc other) value apart = refl
slice_get-set_other (b ∷ bs) (suc place) zero value apart = refl
slice_get-set_other (b ∷ bs) (suc place) (suc other) value apart =
    slice_get-set_other bs place other value (λ e. apart (ap suc e))

covers_parts : (e : Extent) (address : ℕ) → covers e address ≡ true → (e.start ≤ address) × (address < end_of e)
covers_parts e address h =
    let parts = and_parts (leb e.start address) (leb (suc address) (end_of e)) h in
    (leb-true _ _ parts.0, leb-true _ _ parts.1)

byte-set_byte : (m : Memory) (address value other : ℕ) → (other ≡ address → ⊥) → byte (set_byte m address value) other ≡ byte m other
byte-set_byte [] address value other apart = refl
byte-set_byte (e ∷ es) address value other apart =
    elim (cases_Bool (covers e address)) [
      | inl h ↦
          let here = covers_parts e address h in
          let rest = byte es other in
          elim (cases_Bool (covers e other)) [
            | inl k ↦
                let there = covers_parts e other k in
                rw (h, k) (slice_get-set_other e.bytes (address - e.start) (other - e.start) value (λ same. apart (omega arith)))
            | inr k ↦ rw (h, k) refl
          ]
      | inr h ↦ rw h (ap (λ rest. cond (covers e other) (slice_get e.bytes (other - e.start)) rest) (byte-set_byte es address value other apart))
    ]

pub byte-store : (m : Memory) (address size value other : ℕ) → (other < address) ⊎ (address + size ≤ other) → byte (store m address size value) other ≡ byte m other
byte-store m address zero value other outside = refl
byte-store m address (suc size) value other outside =
    byte-store (set_byte m address (value % 256)) (address + 1) size (value / 256) other (grind arith)
    ∙ byte-set_byte m address (value % 256) other (grind arith)

pub load-store_other : (m : Memory) (address size value other count : ℕ) → (other + count ≤ address) ⊎ (address + size ≤ other) → load (store m address size value) other count ≡ load m other count
load-store_other m address size value other zero outside = refl
load-store_other m address size value other (suc count) outside =
    rw (byte-store m address size value other (grind arith), load-store_other m address size value (other + 1) count (grind arith)) refl

pub permits-store : (m : Memory) (address size value other count : ℕ) (need : Need) → permits (store m address size value) other count need ≡ permits m other count need
permits-store m address size value other count need =
    sym (permits-spans (store m address size value) other count need) ∙ ap (λ k. permits k other count need) (spans-store m address size value) ∙ permits-spans m other count need

put_at_keeps : (bytes : List ℕ) (place size value other : ℕ) → other < place → get_or (put_at bytes place size value) other 0 ≡ get_or bytes other 0
put_at_keeps bytes place zero value other before = refl
put_at_keeps bytes place (suc size) value other before =
    put_at_keeps (set bytes place (value % 256)) (place + 1) size (value / 256) other (omega arith)
    ∙ get_or-set_other bytes place other (value % 256) 0 (omega arith)

pow_some : (size : ℕ) → 0 < 256 ^ size
pow_some zero = omega arith
pow_some (suc size) = rw (pow-suc 256 size) (omega (arith, pow_some size))

low_digit : (value size : ℕ) → value % 256 + 256 * (value / 256 % 256 ^ size) ≡ value % 256 ^ suc size
low_digit value size =
    let digits : value % (256 ^ size * 256) ≡ (value / 256 % 256 ^ size) * 256 + value % 256 = mod-mul value (pow_some size) (omega arith) in
    rw (pow-suc 256 size) (omega arith)

number_at-put_at : (bytes : List ℕ) (place size value : ℕ) → place + size ≤ length bytes → number_at (put_at bytes place size value) place size ≡ value % 256 ^ size
number_at-put_at bytes place zero value within = omega arith
number_at-put_at bytes place (suc size) value within =
    let below : place < length bytes = omega arith in
    let put : List ℕ = set bytes place (value % 256) in
    let first : get_or (put_at put (place + 1) size (value / 256)) place 0 ≡ value % 256 =
    put_at_keeps put (place + 1) size (value / 256) place (omega arith) ∙ get_or-set_same bytes place (value % 256) 0 below in
    let more : place + 1 + size ≤ length put = rw length-set (omega arith) in
    rw (first, number_at-put_at put (place + 1) size (value / 256) more) (low_digit value size)

pub load-store : (m : Memory) (address size value : ℕ) → overlaps m ≡ false → All IsFull m → IsTrue (permits m address size Nothing) → load (store m address size value) address size ≡ value % 256 ^ size
load-store m address size value apart full permitted =
    let (place, e, below, is, held) = Any-from_list_any (λ x. holds x address size && allows x Nothing) m permitted in
    let parts = and_parts (leb e.start address) (leb (address + size) (end_of e)) (and_parts (holds e address size) true held).0 in
    let lie : LieAt m place e address size =
    record { apart = apart; below = below; start = rw is (leb-true _ _ parts.0); end = rw is (leb-true _ _ parts.1) } in
    let old : Extent = get_or m place e in
    let bytes : List ℕ = put_at old.bytes (address - old.start) size value in
    let m' : Memory = with_bytes m place e bytes in
    let got : get_or m' place e ≡ record old { bytes = bytes } = get_or-set_same m place _ e below in
    let lie' : LieAt m' place e address size =
    record {
      apart = same_overlaps m' m (spans-with_bytes m place e bytes below) ∙ apart;
      below = rw length-set below;
      start = rw got lie.start;
      end = rw got lie.end;
    } in
    let within : (address - old.start) + size ≤ length old.bytes = omega (arith, (full place e below).whole, lie.start, lie.end) in
    ap (λ k. load k address size) (store_at m place e address size value lie) ∙ load_at m' place e address size lie'
    ∙ ap (λ x. number_at x.bytes (address - x.start) size) got ∙ number_at-put_at old.bytes (address - old.start) size value within

pub is_some-byte : (m : Memory) (address : ℕ) → All IsFull m → is_some (byte m address) ≡ list_any (λ e. covers e address) m
is_some-byte [] address full = refl
is_some-byte (e ∷ es) address full =
    elim (cases_Bool (covers e address)) [
      | inl h ↦
          let here = covers_parts e address h in
          let below : address - e.start < length e.bytes = omega (arith, (All-head IsFull e es full).whole) in
          rw (h, slice_get-get_or e.bytes (address - e.start) 0 below) refl
      | inr h ↦ rw h (is_some-byte es address (All-tail IsFull e es full))
    ]
