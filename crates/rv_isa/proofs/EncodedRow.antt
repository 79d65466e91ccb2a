use Rattle.std.proofs.Common.{◌≡◌, ℕ, ◌+◌, ◌*◌, ◌^◌, ◌<◌, ◌↔◌, refl, sym, subst, ap, ◌∙◌, cond, arith}
use Rattle.std.specs.Prelude.{bit_and, ◌==◌}
use Rattle.std.proofs.lemmas.Bool.Decides.{nat_tests}
use Rattle.rv_isa.specs.Encoded.{assembled, encoded}
use Rattle.rv_isa.specs.Fields.{field}
use Rattle.rv_isa.specs.Form.{mask_of}
use Rattle.rv_isa.specs.Instr.{Row, operands}
use Rattle.rv_isa.specs.Operands.{operands_of}
use Rattle.rv_isa.specs.Table.{form_of, match_of}
use Rattle.rv_isa.specs.declared.form.Form.{Form}
use Rattle.rv_isa.specs.declared.form.Form.TheVariants as form
use Rattle.rv_isa.specs.declared.instr.Instr.{Instr}
use Rattle.rv_isa.specs.declared.op.Op.{Op}
use Rattle.rv_isa.specs.declared.op.Op.TheVariants.{Lui}
use Rattle.rv_isa.proofs.EncodeLemmas.{and_opcode, and_funct3, and_funct5, and_funct7, and_lr, and_all, signed_12_bits, signed_13_bits, signed_21_bits}
use Rattle.rv_isa.proofs.ReadsBack.{reads_back}

-- an ordering bit of a word, as a number in its place
bit_in_place : (b place : ℕ) → b < 2 → cond (b == 1) place 0 ≡ b * place
bit_in_place b place h = grind (arith, nat_tests)

-- A word below 2 ^ 32 is what is assembled of its fixed bits and its operands.
pub whole_word : (f : Form) (w : ℕ) → w < 2 ^ 32 → assembled f (bit_and w (mask_of f)) (operands_of f w) ≡ w
whole_word form.R w h = omega (arith, and_funct7 w)
whole_word form.I w h = omega (arith, and_funct3 w, signed_12_bits (field 20 12 w) (omega arith))
whole_word form.S w h = omega (arith, and_funct3 w, signed_12_bits (field 25 7 w * 2 ^ 5 + field 7 5 w) (omega arith))
whole_word form.B w h =
    omega (arith, and_funct3 w, signed_13_bits (field 31 1 w * 2 ^ 12 + field 7 1 w * 2 ^ 11 + field 25 6 w * 2 ^ 5 + field 8 4 w * 2) (omega arith))
whole_word form.U w h = omega (arith, and_opcode w)
whole_word form.J w h =
    omega (arith, and_opcode w, signed_21_bits (field 31 1 w * 2 ^ 20 + field 12 8 w * 2 ^ 12 + field 20 1 w * 2 ^ 11 + field 21 10 w * 2) (omega arith))
whole_word form.Shift w h = omega (arith, and_funct7 w)
whole_word form.Fence w h = omega (arith, and_funct3 w)
whole_word form.Plain w h = omega (arith, and_all w)
whole_word form.Lr w h =
    omega (arith, and_lr w, bit_in_place (field 26 1 w) (2 ^ 26) (omega arith), bit_in_place (field 25 1 w) (2 ^ 25) (omega arith))
whole_word form.Amo w h =
    omega (arith, and_funct5 w, bit_in_place (field 26 1 w) (2 ^ 26) (omega arith), bit_in_place (field 25 1 w) (2 ^ 25) (omega arith))

-- In each row of the table no fixed bit lies outside of the mask.
fixed_within : (op : Op) → bit_and (match_of op) (mask_of (form_of op)) ≡ match_of op
fixed_within Lui = refl
fixed_within _ = refl

-- An instruction's word has its row.
pub encoded_row : (i : Instr) → Row (encoded i) i
unfolding encoded
encoded_row i =
    let back = reads_back (form_of i.op) (match_of i.op) (operands i) (fixed_within i.op) i.in_range in
    record { matches = back.fixed; operands = sym back.operands }

-- A word with the instruction's row is the instruction's word.
pub encoded_only : (i : Instr) (w : ℕ) → w < 2 ^ 32 → Row w i → encoded i ≡ w
unfolding encoded
encoded_only i w h r =
    ap (λ m. assembled (form_of i.op) m (operands i)) (sym r.matches) ∙ ap (assembled (form_of i.op) (bit_and w (mask_of (form_of i.op)))) r.operands ∙ whole_word (form_of i.op) w h

encoded_below : (i : Instr) → encoded i < 2 ^ 32
unfolding encoded
encoded_below i = omega arith

-- The instruction's word is the one word with its row.
pub encoded_is : (w : ℕ) (i : Instr) → (encoded i ≡ w) ↔ ((w < 2 ^ 32) × Row w i)
encoded_is w i = (λ is. subst (λ (v : ℕ). (v < 2 ^ 32) × Row v i) is (encoded_below i, encoded_row i), λ r. encoded_only i w r.0 r.1)
