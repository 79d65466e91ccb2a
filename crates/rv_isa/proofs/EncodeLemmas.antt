use Rattle.std.proofs.Common.{◌≡◌, ℕ, ◌+◌, ◌*◌, ◌/◌, ◌%◌, ◌^◌, ◌<◌, Bool, true, ℤ, pos, negsuc, refl, ap, ◌∙◌, arith}
use Rattle.std.specs.Prelude.{bit_and, ◌&&◌, ◌==◌, unsigned_abs}
use Rattle.std.specs.Int.{cast_unsigned, w32}
use Rattle.std.proofs.Math.Nat.{div-add-mod}
use Rattle.std.proofs.lemmas.Bool.{and_parts as both_true}
use Rattle.std.proofs.lemmas.Nat.{and_block, and_mask}
use Rattle.std.proofs.lemmas.Int.{ints}
use Rattle.std.proofs.lemmas.Bool.Decides.{nat_tests}
use Rattle.rv_isa.specs.Fields.{signed}
use Rattle.rv_isa.specs.declared.operands.Operands.{Operands}
use Rattle.rv_isa.specs.Operands.{are_operands, InRange, is_within, is_even}
use Rattle.rv_isa.specs.TableLaws.{RangesByField}
use Rattle.rv_isa.specs.declared.form.Form.{Form}

-- ---- what a mask keeps of a word

-- A mask in two parts, at bit k.
and_parts : (k w a r : ℕ) → 0 < 2 ^ k → r < 2 ^ k → bit_and w (a * 2 ^ k + r) ≡ bit_and (w / 2 ^ k) a * 2 ^ k + bit_and (w % 2 ^ k) r
and_parts k w a r some low =
    let whole : 2 ^ k * (w / 2 ^ k) + w % 2 ^ k ≡ w = div-add-mod w (2 ^ k) in
    let split : w ≡ w / 2 ^ k * 2 ^ k + w % 2 ^ k = grind arith in
    let below : w % 2 ^ k < 2 ^ k = omega arith in
    ap (λ n. bit_and n (a * 2 ^ k + r)) split ∙ and_block k (w / 2 ^ k) a (w % 2 ^ k) r below low

pub and_opcode : (w : ℕ) → bit_and w 0x7f ≡ w % 2 ^ 7
and_opcode w = and_mask w 7

pub and_funct3 : (w : ℕ) → bit_and w 0x707f ≡ w / 2 ^ 12 % 2 ^ 3 * 2 ^ 12 + w % 2 ^ 7
and_funct3 w =
    let split = and_parts 12 w 7 0x7f (omega arith) (omega arith) in
    let high : bit_and (w / 2 ^ 12) 7 ≡ w / 2 ^ 12 % 2 ^ 3 = and_mask (w / 2 ^ 12) 3 in
    let low : bit_and (w % 2 ^ 12) 0x7f ≡ w % 2 ^ 12 % 2 ^ 7 = and_mask (w % 2 ^ 12) 7 in
    omega (arith, split, high, low)

pub and_funct7 : (w : ℕ) → bit_and w 0xfe00707f ≡ w / 2 ^ 25 % 2 ^ 7 * 2 ^ 25 + w / 2 ^ 12 % 2 ^ 3 * 2 ^ 12 + w % 2 ^ 7
and_funct7 w =
    let split = and_parts 25 w 0x7f 0x707f (omega arith) (omega arith) in
    let high : bit_and (w / 2 ^ 25) 0x7f ≡ w / 2 ^ 25 % 2 ^ 7 = and_mask (w / 2 ^ 25) 7 in
    let low = and_funct3 (w % 2 ^ 25) in
    omega (arith, split, high, low)

pub and_funct5 : (w : ℕ) → bit_and w 0xf800707f ≡ w / 2 ^ 27 % 2 ^ 5 * 2 ^ 27 + w / 2 ^ 12 % 2 ^ 3 * 2 ^ 12 + w % 2 ^ 7
and_funct5 w =
    let split = and_parts 27 w 0x1f 0x707f (omega arith) (omega arith) in
    let high : bit_and (w / 2 ^ 27) 0x1f ≡ w / 2 ^ 27 % 2 ^ 5 = and_mask (w / 2 ^ 27) 5 in
    let low = and_funct3 (w % 2 ^ 27) in
    omega (arith, split, high, low)

pub and_lr : (w : ℕ) → bit_and w 0xf9f0707f ≡ w / 2 ^ 27 % 2 ^ 5 * 2 ^ 27 + w / 2 ^ 20 % 2 ^ 5 * 2 ^ 20 + w / 2 ^ 12 % 2 ^ 3 * 2 ^ 12 + w % 2 ^ 7
and_lr w =
    let split = and_parts 27 w 0x1f 0x1f0707f (omega arith) (omega arith) in
    let high : bit_and (w / 2 ^ 27) 0x1f ≡ w / 2 ^ 27 % 2 ^ 5 = and_mask (w / 2 ^ 27) 5 in
    let middle_split = and_parts 20 (w % 2 ^ 27) 0x1f 0x707f (omega arith) (omega arith) in
    let middle : bit_and (w % 2 ^ 27 / 2 ^ 20) 0x1f ≡ w % 2 ^ 27 / 2 ^ 20 % 2 ^ 5 = and_mask (w % 2 ^ 27 / 2 ^ 20) 5 in
    let low = and_funct3 (w % 2 ^ 27 % 2 ^ 20) in
    omega (arith, split, high, middle_split, middle, low)

pub and_all : (w : ℕ) → bit_and w 0xffffffff ≡ w % 2 ^ 32
and_all w = and_mask w 32

-- ---- immediates and their bits

pub signed_12_bits : (n : ℕ) → n < 2 ^ 12 → cast_unsigned w32 (signed 12 n) % 2 ^ 12 ≡ n
signed_12_bits n h = grind (arith, ints, nat_tests)

pub signed_13_bits : (n : ℕ) → n < 2 ^ 13 → cast_unsigned w32 (signed 13 n) % 2 ^ 13 ≡ n
signed_13_bits n h = grind (arith, ints, nat_tests)

pub signed_21_bits : (n : ℕ) → n < 2 ^ 21 → cast_unsigned w32 (signed 21 n) % 2 ^ 21 ≡ n
signed_21_bits n h = grind (arith, ints, nat_tests)

pub bits_signed_12 : (z : ℤ) → is_within (negsuc 2047) (pos 2047) z ≡ true → signed 12 (cast_unsigned w32 z % 2 ^ 12) ≡ z
bits_signed_12 (pos n) h = grind (arith, ints, nat_tests)
bits_signed_12 (negsuc n) h = grind (arith, ints, nat_tests)

pub bits_signed_13 : (z : ℤ) → is_within (negsuc 4095) (pos 4094) z && is_even z ≡ true → (signed 13 (cast_unsigned w32 z % 2 ^ 13) ≡ z) × (cast_unsigned w32 z % 2 ≡ 0)
bits_signed_13 (pos n) h = (grind (arith, ints, nat_tests), grind (arith, ints, nat_tests))
bits_signed_13 (negsuc n) h = (grind (arith, ints, nat_tests), grind (arith, ints, nat_tests))

pub bits_signed_21 : (z : ℤ) → is_within (negsuc 1048575) (pos 1048574) z && is_even z ≡ true → (signed 21 (cast_unsigned w32 z % 2 ^ 21) ≡ z) × (cast_unsigned w32 z % 2 ≡ 0)
bits_signed_21 (pos n) h = (grind (arith, ints, nat_tests), grind (arith, ints, nat_tests))
bits_signed_21 (negsuc n) h = (grind (arith, ints, nat_tests), grind (arith, ints, nat_tests))

pub bits_number : (limit : ℕ) (z : ℤ) → is_within (pos 0) (pos limit) z ≡ true → (pos (cast_unsigned w32 z) ≡ z) × (cast_unsigned w32 z < limit + 1)
bits_number limit (pos n) h = (refl, grind (arith, ints, nat_tests))
bits_number limit (negsuc n) h = (grind (arith, ints, nat_tests), grind (arith, ints, nat_tests))

pub no_immediate : (z : ℤ) → (unsigned_abs z == 0) ≡ true → z ≡ pos 0
no_immediate (pos n) h = let none : n ≡ 0 = grind (arith, nat_tests) in ap pos none
no_immediate (negsuc n) h = grind (arith, nat_tests)

-- ---- the operands of an instruction, one by one

abbrev pub made : ℕ → ℕ → ℕ → ℤ → Bool → Bool → Operands
made rd rs1 rs2 imm aq rl = record { rd = rd; rs1 = rs1; rs2 = rs2; imm = imm; aq = aq; rl = rl }

pub same_operands : (o : Operands) (rd rs1 rs2 : ℕ) (imm : ℤ) (aq rl : Bool) → o.rd ≡ rd → o.rs1 ≡ rs1 → o.rs2 ≡ rs2 → o.imm ≡ imm → o.aq ≡ aq → o.rl ≡ rl → o ≡ made rd rs1 rs2 imm aq rl
same_operands o rd rs1 rs2 imm aq rl a b c d e f = rw (← a, ← b, ← c, ← d, ← e, ← f)

pub in_range : (f : Form) (o : Operands) → are_operands f o ≡ true → InRange f o
in_range f o h =
    let h1 = both_true _ _ h in
    let h2 = both_true _ _ h1.0 in
    let h3 = both_true _ _ h2.0 in
    let h4 = both_true _ _ h3.0 in
    let h5 = both_true _ _ h4.0 in
    record { rd = h5.0; rs1 = h5.1; rs2 = h4.1; imm = h3.1; aq = h2.1; rl = h1.1 }

pub ranges_by_field : RangesByField
ranges_by_field f o = (in_range f o, λ r. rw (r.rd, r.rs1, r.rs2, r.imm, r.aq, r.rl) refl)
