use Rattle.std.proofs.Common.{◌≡◌, ℕ, ◌+◌, ◌*◌, ◌/◌, ◌%◌, ◌^◌, ◌<◌, Bool, true, false, ℤ, pos, refl, ap, ◌∙◌, cond, arith}
use Rattle.std.specs.Prelude.{bit_and, ◌==◌, nat_lt}
use Rattle.std.specs.Int.{cast_unsigned, w32}
use Rattle.std.proofs.lemmas.Bool.{not-true}
use Rattle.std.proofs.lemmas.Bool.Decides.{nat_tests}
use Rattle.rv_isa.specs.Encoded.{assembled}
use Rattle.rv_isa.specs.Fields.{field, signed}
use Rattle.rv_isa.specs.Form.{mask_of}
use Rattle.rv_isa.specs.declared.operands.Operands.{Operands}
use Rattle.rv_isa.specs.Operands.{operands_of, are_operands, InRange, is_immediate}
use Rattle.rv_isa.specs.declared.form.Form.{Form}
use Rattle.rv_isa.specs.declared.form.Form.TheVariants as form
use Rattle.rv_isa.proofs.EncodeLemmas.{and_opcode, and_funct3, and_funct5, and_funct7, and_lr, and_all, bits_signed_12, bits_signed_13, bits_signed_21, bits_number, no_immediate, made, same_operands, in_range}

-- An instruction's word, read again, has the fixed bits and the operands.
pub record ReadsBack (f : Form) (m : ℕ) (o : Operands) : Type 0 where
  pub fixed : bit_and (assembled f m o) (mask_of f) ≡ m
  pub operands : operands_of f (assembled f m o) ≡ o

register_below : (r : ℕ) → nat_lt r 32 ≡ true → r < 32
register_below r h = grind (arith, nat_tests)

no_register : (r : ℕ) → (r == 0) ≡ true → r ≡ 0
no_register r h = grind (arith, nat_tests)

core_R : (m rd rs1 rs2 : ℕ) → bit_and m (mask_of form.R) ≡ m → rd < 32 → rs1 < 32 → rs2 < 32 → ReadsBack form.R m (made rd rs1 rs2 (pos 0) false false)
core_R m rd rs1 rs2 h a b c =
    let w : ℕ = assembled form.R m (made rd rs1 rs2 (pos 0) false false) in
    let in_m = and_funct7 m in
    let in_w = and_funct7 w in
    record {
      fixed = omega (arith, in_m, in_w, h);
      operands = same_operands (operands_of form.R w) rd rs1 rs2 (pos 0) false false (omega (arith, in_m, h)) (omega (arith, in_m, h)) (omega (arith, in_m, h)) refl refl refl;
    }

back_R : (m : ℕ) (o : Operands) → bit_and m (mask_of form.R) ≡ m → InRange form.R o → ReadsBack form.R m o
back_R m o h f =
    let same : o ≡ made o.rd o.rs1 o.rs2 (pos 0) false false = same_operands o o.rd o.rs1 o.rs2 (pos 0) false false refl refl refl (no_immediate o.imm f.imm) (not-true o.aq f.aq) (not-true o.rl f.rl) in
    rw same (core_R m o.rd o.rs1 o.rs2 h (register_below o.rd f.rd) (register_below o.rs1 f.rs1) (register_below o.rs2 f.rs2))

core_I : (m rd rs1 : ℕ) (imm : ℤ) → bit_and m (mask_of form.I) ≡ m → rd < 32 → rs1 < 32 → is_immediate form.I imm ≡ true → ReadsBack form.I m (made rd rs1 0 imm false false)
core_I m rd rs1 imm h a b i =
    let w : ℕ = assembled form.I m (made rd rs1 0 imm false false) in
    let in_m = and_funct3 m in
    let in_w = and_funct3 w in
    let bits : field 20 12 w ≡ cast_unsigned w32 imm % 2 ^ 12 = omega (arith, in_m, h) in
    record {
      fixed = omega (arith, in_m, in_w, h);
      operands = same_operands (operands_of form.I w) rd rs1 0 imm false false (omega (arith, in_m, h)) (omega (arith, in_m, h)) refl (ap (signed 12) bits ∙ bits_signed_12 imm i) refl refl;
    }

back_I : (m : ℕ) (o : Operands) → bit_and m (mask_of form.I) ≡ m → InRange form.I o → ReadsBack form.I m o
back_I m o h f =
    let same : o ≡ made o.rd o.rs1 0 o.imm false false = same_operands o o.rd o.rs1 0 o.imm false false refl refl (no_register o.rs2 f.rs2) refl (not-true o.aq f.aq) (not-true o.rl f.rl) in
    rw same (core_I m o.rd o.rs1 o.imm h (register_below o.rd f.rd) (register_below o.rs1 f.rs1) f.imm)

core_S : (m rs1 rs2 : ℕ) (imm : ℤ) → bit_and m (mask_of form.S) ≡ m → rs1 < 32 → rs2 < 32 → is_immediate form.S imm ≡ true → ReadsBack form.S m (made 0 rs1 rs2 imm false false)
core_S m rs1 rs2 imm h a b i =
    let w : ℕ = assembled form.S m (made 0 rs1 rs2 imm false false) in
    let in_m = and_funct3 m in
    let in_w = and_funct3 w in
    let high : field 25 7 w ≡ cast_unsigned w32 imm / 2 ^ 5 % 2 ^ 7 = omega (arith, in_m, h) in
    let low : field 7 5 w ≡ cast_unsigned w32 imm % 2 ^ 5 = omega (arith, in_m, h) in
    let bits : field 25 7 w * 2 ^ 5 + field 7 5 w ≡ cast_unsigned w32 imm % 2 ^ 12 = omega (arith, high, low) in
    record {
      fixed = omega (arith, in_m, in_w, h);
      operands = same_operands (operands_of form.S w) 0 rs1 rs2 imm false false refl (omega (arith, in_m, h)) (omega (arith, in_m, h)) (ap (signed 12) bits ∙ bits_signed_12 imm i) refl refl;
    }

back_S : (m : ℕ) (o : Operands) → bit_and m (mask_of form.S) ≡ m → InRange form.S o → ReadsBack form.S m o
back_S m o h f =
    let same : o ≡ made 0 o.rs1 o.rs2 o.imm false false = same_operands o 0 o.rs1 o.rs2 o.imm false false (no_register o.rd f.rd) refl refl refl (not-true o.aq f.aq) (not-true o.rl f.rl) in
    rw same (core_S m o.rs1 o.rs2 o.imm h (register_below o.rs1 f.rs1) (register_below o.rs2 f.rs2) f.imm)

core_B : (m rs1 rs2 : ℕ) (imm : ℤ) → bit_and m (mask_of form.B) ≡ m → rs1 < 32 → rs2 < 32 → is_immediate form.B imm ≡ true → ReadsBack form.B m (made 0 rs1 rs2 imm false false)
core_B m rs1 rs2 imm h a b i =
    let w : ℕ = assembled form.B m (made 0 rs1 rs2 imm false false) in
    let in_m = and_funct3 m in
    let in_w = and_funct3 w in
    let range = bits_signed_13 imm i in
    let sign : field 31 1 w ≡ cast_unsigned w32 imm / 2 ^ 12 % 2 = omega (arith, in_m, h) in
    let bit_11 : field 7 1 w ≡ cast_unsigned w32 imm / 2 ^ 11 % 2 = omega (arith, in_m, h) in
    let high : field 25 6 w ≡ cast_unsigned w32 imm / 2 ^ 5 % 2 ^ 6 = omega (arith, in_m, h) in
    let low : field 8 4 w ≡ cast_unsigned w32 imm / 2 % 2 ^ 4 = omega (arith, in_m, h) in
    let bits : field 31 1 w * 2 ^ 12 + field 7 1 w * 2 ^ 11 + field 25 6 w * 2 ^ 5 + field 8 4 w * 2 ≡ cast_unsigned w32 imm % 2 ^ 13 = omega (arith, sign, bit_11, high, low, range.1) in
    record {
      fixed = omega (arith, in_m, in_w, h);
      operands = same_operands (operands_of form.B w) 0 rs1 rs2 imm false false refl (omega (arith, in_m, h)) (omega (arith, in_m, h)) (ap (signed 13) bits ∙ range.0) refl refl;
    }

back_B : (m : ℕ) (o : Operands) → bit_and m (mask_of form.B) ≡ m → InRange form.B o → ReadsBack form.B m o
back_B m o h f =
    let same : o ≡ made 0 o.rs1 o.rs2 o.imm false false = same_operands o 0 o.rs1 o.rs2 o.imm false false (no_register o.rd f.rd) refl refl refl (not-true o.aq f.aq) (not-true o.rl f.rl) in
    rw same (core_B m o.rs1 o.rs2 o.imm h (register_below o.rs1 f.rs1) (register_below o.rs2 f.rs2) f.imm)

core_U : (m rd : ℕ) (imm : ℤ) → bit_and m (mask_of form.U) ≡ m → rd < 32 → is_immediate form.U imm ≡ true → ReadsBack form.U m (made rd 0 0 imm false false)
core_U m rd imm h a i =
    let w : ℕ = assembled form.U m (made rd 0 0 imm false false) in
    let in_m = and_opcode m in
    let in_w = and_opcode w in
    let range = bits_number 0xfffff imm i in
    let bits : field 12 20 w ≡ cast_unsigned w32 imm = omega (arith, in_m, h, range.1) in
    record {
      fixed = omega (arith, in_m, in_w, h);
      operands = same_operands (operands_of form.U w) rd 0 0 imm false false (omega (arith, in_m, h)) refl refl (ap pos bits ∙ range.0) refl refl;
    }

back_U : (m : ℕ) (o : Operands) → bit_and m (mask_of form.U) ≡ m → InRange form.U o → ReadsBack form.U m o
back_U m o h f =
    let same : o ≡ made o.rd 0 0 o.imm false false = same_operands o o.rd 0 0 o.imm false false refl (no_register o.rs1 f.rs1) (no_register o.rs2 f.rs2) refl (not-true o.aq f.aq) (not-true o.rl f.rl) in
    rw same (core_U m o.rd o.imm h (register_below o.rd f.rd) f.imm)

core_J : (m rd : ℕ) (imm : ℤ) → bit_and m (mask_of form.J) ≡ m → rd < 32 → is_immediate form.J imm ≡ true → ReadsBack form.J m (made rd 0 0 imm false false)
core_J m rd imm h a i =
    let w : ℕ = assembled form.J m (made rd 0 0 imm false false) in
    let in_m = and_opcode m in
    let in_w = and_opcode w in
    let range = bits_signed_21 imm i in
    let sign : field 31 1 w ≡ cast_unsigned w32 imm / 2 ^ 20 % 2 = omega (arith, in_m, h) in
    let high : field 12 8 w ≡ cast_unsigned w32 imm / 2 ^ 12 % 2 ^ 8 = omega (arith, in_m, h) in
    let bit_11 : field 20 1 w ≡ cast_unsigned w32 imm / 2 ^ 11 % 2 = omega (arith, in_m, h) in
    let low : field 21 10 w ≡ cast_unsigned w32 imm / 2 % 2 ^ 10 = omega (arith, in_m, h) in
    let bits : field 31 1 w * 2 ^ 20 + field 12 8 w * 2 ^ 12 + field 20 1 w * 2 ^ 11 + field 21 10 w * 2 ≡ cast_unsigned w32 imm % 2 ^ 21 = omega (arith, sign, bit_11, high, low, range.1) in
    record {
      fixed = omega (arith, in_m, in_w, h);
      operands = same_operands (operands_of form.J w) rd 0 0 imm false false (omega (arith, in_m, h)) refl refl (ap (signed 21) bits ∙ range.0) refl refl;
    }

back_J : (m : ℕ) (o : Operands) → bit_and m (mask_of form.J) ≡ m → InRange form.J o → ReadsBack form.J m o
back_J m o h f =
    let same : o ≡ made o.rd 0 0 o.imm false false = same_operands o o.rd 0 0 o.imm false false refl (no_register o.rs1 f.rs1) (no_register o.rs2 f.rs2) refl (not-true o.aq f.aq) (not-true o.rl f.rl) in
    rw same (core_J m o.rd o.imm h (register_below o.rd f.rd) f.imm)

core_Shift : (m rd rs1 : ℕ) (imm : ℤ) → bit_and m (mask_of form.Shift) ≡ m → rd < 32 → rs1 < 32 → is_immediate form.Shift imm ≡ true → ReadsBack form.Shift m (made rd rs1 0 imm false false)
core_Shift m rd rs1 imm h a b i =
    let w : ℕ = assembled form.Shift m (made rd rs1 0 imm false false) in
    let in_m = and_funct7 m in
    let in_w = and_funct7 w in
    let range = bits_number 31 imm i in
    let bits : field 20 5 w ≡ cast_unsigned w32 imm = omega (arith, in_m, h, range.1) in
    record {
      fixed = omega (arith, in_m, in_w, h);
      operands = same_operands (operands_of form.Shift w) rd rs1 0 imm false false (omega (arith, in_m, h)) (omega (arith, in_m, h)) refl (ap pos bits ∙ range.0) refl refl;
    }

back_Shift : (m : ℕ) (o : Operands) → bit_and m (mask_of form.Shift) ≡ m → InRange form.Shift o → ReadsBack form.Shift m o
back_Shift m o h f =
    let same : o ≡ made o.rd o.rs1 0 o.imm false false = same_operands o o.rd o.rs1 0 o.imm false false refl refl (no_register o.rs2 f.rs2) refl (not-true o.aq f.aq) (not-true o.rl f.rl) in
    rw same (core_Shift m o.rd o.rs1 o.imm h (register_below o.rd f.rd) (register_below o.rs1 f.rs1) f.imm)

core_Fence : (m rd rs1 : ℕ) (imm : ℤ) → bit_and m (mask_of form.Fence) ≡ m → rd < 32 → rs1 < 32 → is_immediate form.Fence imm ≡ true → ReadsBack form.Fence m (made rd rs1 0 imm false false)
core_Fence m rd rs1 imm h a b i =
    let w : ℕ = assembled form.Fence m (made rd rs1 0 imm false false) in
    let in_m = and_funct3 m in
    let in_w = and_funct3 w in
    let range = bits_number 4095 imm i in
    let bits : field 20 12 w ≡ cast_unsigned w32 imm = omega (arith, in_m, h, range.1) in
    record {
      fixed = omega (arith, in_m, in_w, h);
      operands = same_operands (operands_of form.Fence w) rd rs1 0 imm false false (omega (arith, in_m, h)) (omega (arith, in_m, h)) refl (ap pos bits ∙ range.0) refl refl;
    }

back_Fence : (m : ℕ) (o : Operands) → bit_and m (mask_of form.Fence) ≡ m → InRange form.Fence o → ReadsBack form.Fence m o
back_Fence m o h f =
    let same : o ≡ made o.rd o.rs1 0 o.imm false false = same_operands o o.rd o.rs1 0 o.imm false false refl refl (no_register o.rs2 f.rs2) refl (not-true o.aq f.aq) (not-true o.rl f.rl) in
    rw same (core_Fence m o.rd o.rs1 o.imm h (register_below o.rd f.rd) (register_below o.rs1 f.rs1) f.imm)

core_Plain : (m : ℕ) → bit_and m (mask_of form.Plain) ≡ m → ReadsBack form.Plain m (made 0 0 0 (pos 0) false false)
core_Plain m h =
    let w : ℕ = assembled form.Plain m (made 0 0 0 (pos 0) false false) in
    let in_m = and_all m in
    let in_w = and_all w in
    record { fixed = omega (arith, in_m, in_w, h); operands = refl }

back_Plain : (m : ℕ) (o : Operands) → bit_and m (mask_of form.Plain) ≡ m → InRange form.Plain o → ReadsBack form.Plain m o
back_Plain m o h f =
    let same : o ≡ made 0 0 0 (pos 0) false false = same_operands o 0 0 0 (pos 0) false false (no_register o.rd f.rd) (no_register o.rs1 f.rs1) (no_register o.rs2 f.rs2) (no_immediate o.imm f.imm) (not-true o.aq f.aq) (not-true o.rl f.rl) in
    rw same (core_Plain m h)

-- an ordering bit as a number
abbrev flag : Bool → ℕ
flag b = cond b 1 0

flag_is : (b : Bool) (n : ℕ) → n ≡ flag b → (n == 1) ≡ b
flag_is true n h = rw h
flag_is false n h = rw h

core_Lr : (m rd rs1 : ℕ) (aq rl : Bool) → bit_and m (mask_of form.Lr) ≡ m → rd < 32 → rs1 < 32 → ReadsBack form.Lr m (made rd rs1 0 (pos 0) aq rl)
core_Lr m rd rs1 aq rl h a b =
    let w : ℕ = assembled form.Lr m (made rd rs1 0 (pos 0) aq rl) in
    let in_m = and_lr m in
    let in_w = and_lr w in
    record {
      fixed = grind (arith, in_m, in_w, h);
      operands = same_operands (operands_of form.Lr w) rd rs1 0 (pos 0) aq rl (grind (arith, in_m, h)) (grind (arith, in_m, h)) refl refl (flag_is aq _ (grind (arith, in_m, h))) (flag_is rl _ (grind (arith, in_m, h)));
    }

back_Lr : (m : ℕ) (o : Operands) → bit_and m (mask_of form.Lr) ≡ m → InRange form.Lr o → ReadsBack form.Lr m o
back_Lr m o h f =
    let same : o ≡ made o.rd o.rs1 0 (pos 0) o.aq o.rl = same_operands o o.rd o.rs1 0 (pos 0) o.aq o.rl refl refl (no_register o.rs2 f.rs2) (no_immediate o.imm f.imm) refl refl in
    rw same (core_Lr m o.rd o.rs1 o.aq o.rl h (register_below o.rd f.rd) (register_below o.rs1 f.rs1))

core_Amo : (m rd rs1 rs2 : ℕ) (aq rl : Bool) → bit_and m (mask_of form.Amo) ≡ m → rd < 32 → rs1 < 32 → rs2 < 32 → ReadsBack form.Amo m (made rd rs1 rs2 (pos 0) aq rl)
core_Amo m rd rs1 rs2 aq rl h a b c =
    let w : ℕ = assembled form.Amo m (made rd rs1 rs2 (pos 0) aq rl) in
    let in_m = and_funct5 m in
    let in_w = and_funct5 w in
    record {
      fixed = grind (arith, in_m, in_w, h);
      operands = same_operands (operands_of form.Amo w) rd rs1 rs2 (pos 0) aq rl (grind (arith, in_m, h)) (grind (arith, in_m, h)) (grind (arith, in_m, h)) refl (flag_is aq _ (grind (arith, in_m, h))) (flag_is rl _ (grind (arith, in_m, h)));
    }

back_Amo : (m : ℕ) (o : Operands) → bit_and m (mask_of form.Amo) ≡ m → InRange form.Amo o → ReadsBack form.Amo m o
back_Amo m o h f =
    let same : o ≡ made o.rd o.rs1 o.rs2 (pos 0) o.aq o.rl = same_operands o o.rd o.rs1 o.rs2 (pos 0) o.aq o.rl refl refl refl (no_immediate o.imm f.imm) refl refl in
    rw same (core_Amo m o.rd o.rs1 o.rs2 o.aq o.rl h (register_below o.rd f.rd) (register_below o.rs1 f.rs1) (register_below o.rs2 f.rs2))

-- What is assembled of a row's fixed bits and operands in range has both again.
pub reads_back : (f : Form) (m : ℕ) (o : Operands) → bit_and m (mask_of f) ≡ m → are_operands f o ≡ true → ReadsBack f m o
reads_back form.R m o h fits = back_R m o h (in_range form.R o fits)
reads_back form.I m o h fits = back_I m o h (in_range form.I o fits)
reads_back form.S m o h fits = back_S m o h (in_range form.S o fits)
reads_back form.B m o h fits = back_B m o h (in_range form.B o fits)
reads_back form.U m o h fits = back_U m o h (in_range form.U o fits)
reads_back form.J m o h fits = back_J m o h (in_range form.J o fits)
reads_back form.Shift m o h fits = back_Shift m o h (in_range form.Shift o fits)
reads_back form.Fence m o h fits = back_Fence m o h (in_range form.Fence o fits)
reads_back form.Plain m o h fits = back_Plain m o h (in_range form.Plain o fits)
reads_back form.Lr m o h fits = back_Lr m o h (in_range form.Lr o fits)
reads_back form.Amo m o h fits = back_Amo m o h (in_range form.Amo o fits)
