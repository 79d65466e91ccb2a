-- The operands that a word has in a format are in the format's range.
use Rattle.std.proofs.Common.{◌≡◌, ℕ, ◌+◌, ◌*◌, ◌^◌, ◌<◌, true, pos, negsuc, refl, arith}
use Rattle.std.specs.Prelude.{◌&&◌, nat_lt}
use Rattle.std.proofs.lemmas.Int.{ints}
use Rattle.std.proofs.lemmas.Bool.Decides.{nat_tests}
use Rattle.rv_isa.specs.Fields as fields
use Rattle.rv_isa.specs.Operands.{is_immediate, is_within, is_even, immediate_of, operands_of, are_operands}
use Rattle.rv_isa.specs.declared.form.Form.{Form}
use Rattle.rv_isa.specs.declared.form.Form.TheVariants.{R, I, S, B, U, J, Shift, Fence, Plain, Lr, Amo}

-- What an instruction made of a word has to have by its type: that its operands are in range. The lemmas lead to
-- the last one, and each is proved where it stands.

register_fits : (low w : ℕ) → nat_lt (fields.field low 5 w) 32 ≡ true
register_fits low w = grind (arith, nat_tests)

field_fits : (low width w : ℕ) → 0 < 2 ^ width → fields.field low width w < 2 ^ width
field_fits low width w h = omega arith

signed_12_fits : (n : ℕ) → n < 2 ^ 12 → is_within (negsuc 2047) (pos 2047) (fields.signed 12 n) ≡ true
signed_12_fits n h = grind (arith, ints, nat_tests)

signed_13_fits : (n : ℕ) → n < 2 ^ 12 → is_within (negsuc 4095) (pos 4094) (fields.signed 13 (n * 2)) && is_even (fields.signed 13 (n * 2)) ≡ true
signed_13_fits n h = grind (arith, ints, nat_tests)

signed_21_fits : (n : ℕ) → n < 2 ^ 20 → is_within (negsuc 1048575) (pos 1048574) (fields.signed 21 (n * 2)) && is_even (fields.signed 21 (n * 2)) ≡ true
signed_21_fits n h = grind (arith, ints, nat_tests)

number_fits : (n limit : ℕ) → n < limit + 1 → is_within (pos 0) (pos limit) (pos n) ≡ true
number_fits n limit h = grind (arith, ints, nat_tests)

immediate_fits : (f : Form) (w : ℕ) → is_immediate f (immediate_of f w) ≡ true
immediate_fits R w = refl
immediate_fits I w = signed_12_fits (fields.field 20 12 w) (omega arith)
immediate_fits S w = signed_12_fits (fields.field 25 7 w * 2 ^ 5 + fields.field 7 5 w) (omega arith)
immediate_fits B w =
    let half : ℕ = fields.field 31 1 w * 2 ^ 11 + fields.field 7 1 w * 2 ^ 10 + fields.field 25 6 w * 2 ^ 4 + fields.field 8 4 w in
    let doubled : fields.field 31 1 w * 2 ^ 12 + fields.field 7 1 w * 2 ^ 11 + fields.field 25 6 w * 2 ^ 5 + fields.field 8 4 w * 2 ≡ half * 2 = omega arith in
    rw doubled (signed_13_fits half (omega arith))
immediate_fits U w = number_fits (fields.field 12 20 w) 0xfffff (omega arith)
immediate_fits J w =
    let half : ℕ = fields.field 31 1 w * 2 ^ 19 + fields.field 12 8 w * 2 ^ 11 + fields.field 20 1 w * 2 ^ 10 + fields.field 21 10 w in
    let doubled : fields.field 31 1 w * 2 ^ 20 + fields.field 12 8 w * 2 ^ 12 + fields.field 20 1 w * 2 ^ 11 + fields.field 21 10 w * 2 ≡ half * 2 = omega arith in
    rw doubled (signed_21_fits half (omega arith))
immediate_fits Shift w = number_fits (fields.field 20 5 w) 31 (omega arith)
immediate_fits Fence w = number_fits (fields.field 20 12 w) 4095 (omega arith)
immediate_fits Plain w = refl
immediate_fits Lr w = refl
immediate_fits Amo w = refl

-- The operands of any word, in any format, are in the format's range.
pub operands_fit : (f : Form) (w : ℕ) → are_operands f (operands_of f w) ≡ true
operands_fit R w = rw (register_fits 7 w, register_fits 15 w, register_fits 20 w)
operands_fit I w = rw (register_fits 7 w, register_fits 15 w, immediate_fits I w)
operands_fit S w = rw (register_fits 15 w, register_fits 20 w, immediate_fits S w)
operands_fit B w = rw (register_fits 15 w, register_fits 20 w, immediate_fits B w)
operands_fit U w = rw (register_fits 7 w, immediate_fits U w)
operands_fit J w = rw (register_fits 7 w, immediate_fits J w)
operands_fit Shift w = rw (register_fits 7 w, register_fits 15 w, immediate_fits Shift w)
operands_fit Fence w = rw (register_fits 7 w, register_fits 15 w, immediate_fits Fence w)
operands_fit Plain w = refl
operands_fit Lr w = rw (register_fits 7 w, register_fits 15 w)
operands_fit Amo w = rw (register_fits 7 w, register_fits 15 w, register_fits 20 w)
