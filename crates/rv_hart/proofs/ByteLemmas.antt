use Rattle.std.proofs.Common.{◌≡◌, ℕ, ◌+◌, ◌-◌, ◌*◌, ◌^◌, ◌≤◌, Bool, cond, true, false, [], ◌∷◌, Option, Some, None, refl, sym, ◌∙◌, ap, arith}
use Rattle.std.specs.Prelude.{◌&&◌, ◌||◌, nat_le, nat_lt, is_some, unwrap_or, slice_get, All}
use Rattle.std.specs.List.{list_any}
use Rattle.std.proofs.lemmas.Bool.Decides.{nat_tests}
use Rattle.rv_memory.specs.Extent.{Extent, IsFull, end_of}
use Rattle.rv_memory.specs.Memory.{Memory, byte, covers, fault_of, holds, load, permits}
use Rattle.rv_memory.specs.MemoryLaws.{BytesStandWhereCovered}
use Rattle.rv_memory.specs.declared.store.MemFault.{MemFault}
use Rattle.rv_memory.specs.declared.store.MemFault.TheVariants.{PastEnd}
use Rattle.rv_memory.specs.declared.store.Need.TheVariants.{Nothing}

-- a single byte lies within just the extents that cover its address
one_byte : (e : Extent) (address : ℕ) → holds e address 1 && true ≡ covers e address
one_byte e address = grind (arith, nat_tests)

permits_covers : (m : Memory) (address : ℕ) → permits m address 1 Nothing ≡ list_any (λ e. covers e address) m
permits_covers [] address = refl
permits_covers (e ∷ es) address = rw (one_byte e address, permits_covers es address)

permits_byte : BytesStandWhereCovered → (m : Memory) (address : ℕ) → All IsFull m → permits m address 1 Nothing ≡ is_some (byte m address)
permits_byte stand m address full = permits_covers m address ∙ sym (stand m address full)

some_byte : (o : Option ℕ) → is_some o ≡ true → Some (unwrap_or o 0 + 256 * 0) ≡ o
some_byte None h = cc
some_byte (Some b) h = let same : b + 256 * 0 ≡ b = omega arith in ap Some same

no_byte : (o : Option ℕ) → is_some o ≡ false → None ≡ o
no_byte None h = refl
no_byte (Some b) h = cc

pub byte_within : BytesStandWhereCovered → (m : Memory) (address : ℕ) → All IsFull m → permits m address 1 Nothing ≡ true → Some (load m address 1) ≡ byte m address
byte_within stand m address full h = some_byte (byte m address) (sym (permits_byte stand m address full) ∙ h)

pub byte_outside : BytesStandWhereCovered → (m : Memory) (address : ℕ) → All IsFull m → permits m address 1 Nothing ≡ false → None ≡ byte m address
byte_outside stand m address full h = no_byte (byte m address) (sym (permits_byte stand m address full) ∙ h)

or_parts : (b c : Bool) → (b || c) ≡ false → (b ≡ false) × (c ≡ false)
or_parts false c h = (refl, h)
or_parts true c h = cc

not_covered : (start end last address : ℕ) → last ≤ address → nat_lt last end ≡ false → nat_le start address && nat_lt address end ≡ false
not_covered start end last address past ends = grind (arith, nat_tests)

past_each : (m : Memory) (address : ℕ) → 2 ^ 32 ≤ address → list_any (λ e. nat_lt (2 ^ 32) (end_of e)) m ≡ false → byte m address ≡ None
past_each [] address past ends = refl
past_each (e ∷ es) address past ends =
    let parts = or_parts (nat_lt (2 ^ 32) (end_of e)) (list_any (λ e. nat_lt (2 ^ 32) (end_of e)) es) ends in
    ap (λ b. cond b (slice_get e.bytes (address - e.start)) (byte es address)) (not_covered e.start (end_of e) (2 ^ 32) address past parts.0) ∙ past_each es address past parts.1

no_past : (o : Option MemFault) (b : Bool) → cond b (Some PastEnd) o ≡ None → b ≡ false
no_past o true h = cc
no_past o false h = refl

-- no byte stands past the last address
pub none_past : (m : Memory) (address : ℕ) → fault_of m ≡ None → 2 ^ 32 ≤ address → byte m address ≡ None
none_past m address sound past = past_each m address past (no_past _ (list_any (λ e. nat_lt (2 ^ 32) (end_of e)) m) sound)
