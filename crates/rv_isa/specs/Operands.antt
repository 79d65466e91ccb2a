-- The operands of a word in a format, and the ranges of an instruction's operands.
use Rattle.std.specs.Prelude.{ℕ, ℤ, pos, negsuc, unsigned_abs, int_le, ◌%◌, Bool, true, not, ◌&&◌, ◌==◌, nat_lt, if◌then◌else◌, IsTrue}
use Rattle.rv_isa.specs.Fields as fields
use Rattle.rv_isa.specs.Form.{has_rd, has_rs1, has_rs2, has_ordering}
use Rattle.rv_isa.specs.declared.form.Form.{Form}
use Rattle.rv_isa.specs.declared.form.Form.TheVariants.{R, I, S, B, U, J, Shift, Fence, Plain, Lr, Amo}
use Rattle.rv_isa.specs.declared.operands.Operands.{Operands}

abbrev pub immediate_of : Form → ℕ → ℤ
immediate_of R w = pos 0
immediate_of I w = fields.immediate_i w
immediate_of S w = fields.immediate_s w
immediate_of B w = fields.immediate_b w
immediate_of U w = fields.immediate_u w
immediate_of J w = fields.immediate_j w
immediate_of Shift w = fields.immediate_shift w
immediate_of Fence w = fields.immediate_fence w
immediate_of Plain w = pos 0
immediate_of Lr w = pos 0
immediate_of Amo w = pos 0

-- the operands of a word in a format
abbrev pub operands_of : Form → ℕ → Operands
operands_of form w = record {
  rd = if has_rd form then fields.rd w else 0;
  rs1 = if has_rs1 form then fields.rs1 w else 0;
  rs2 = if has_rs2 form then fields.rs2 w else 0;
  imm = immediate_of form w;
  aq = has_ordering form && fields.aq w;
  rl = has_ordering form && fields.rl w;
}

-- a register's number, or 0 where there is none
abbrev pub is_register : Bool → ℕ → Bool
is_register has r = if has then nat_lt r 32 else r == 0

abbrev pub is_within : ℤ → ℤ → ℤ → Bool
is_within low high imm = int_le low imm && int_le imm high

abbrev pub is_even : ℤ → Bool
is_even imm = unsigned_abs imm % 2 == 0

-- the range of a format's immediate
abbrev pub is_immediate : Form → ℤ → Bool
is_immediate R imm = unsigned_abs imm == 0
is_immediate I imm = is_within (negsuc 2047) (pos 2047) imm
is_immediate S imm = is_within (negsuc 2047) (pos 2047) imm
is_immediate B imm = is_within (negsuc 4095) (pos 4094) imm && is_even imm
is_immediate U imm = is_within (pos 0) (pos 0xfffff) imm
is_immediate J imm = is_within (negsuc 1048575) (pos 1048574) imm && is_even imm
is_immediate Shift imm = is_within (pos 0) (pos 31) imm
is_immediate Fence imm = is_within (pos 0) (pos 4095) imm
is_immediate Plain imm = unsigned_abs imm == 0
is_immediate Lr imm = unsigned_abs imm == 0
is_immediate Amo imm = unsigned_abs imm == 0

-- the ordering bits may be set in the atomics alone
abbrev pub is_ordering : Bool → Bool → Bool
is_ordering has b = if has then true else not b

-- each field is in the format's range, and one that the format has not is 0 or false
abbrev pub are_operands : Form → Operands → Bool
are_operands form o =
    is_register (has_rd form) o.rd && is_register (has_rs1 form) o.rs1 && is_register (has_rs2 form) o.rs2 && is_immediate form o.imm && is_ordering (has_ordering form) o.aq && is_ordering (has_ordering form) o.rl

-- the same, field by field
pub record InRange (form : Form) (o : Operands) : Type 0 where
  pub rd : IsTrue (is_register (has_rd form) o.rd)
  pub rs1 : IsTrue (is_register (has_rs1 form) o.rs1)
  pub rs2 : IsTrue (is_register (has_rs2 form) o.rs2)
  pub imm : IsTrue (is_immediate form o.imm)
  pub aq : IsTrue (is_ordering (has_ordering form) o.aq)
  pub rl : IsTrue (is_ordering (has_ordering form) o.rl)
