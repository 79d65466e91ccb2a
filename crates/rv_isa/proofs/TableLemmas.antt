use Rattle.std.proofs.Common.{◌≡◌, ℕ, ◌-◌, ◌/◌, ◌%◌, ◌^◌, refl, sym, ap, ◌∙◌}
use Rattle.std.specs.Prelude.{bit_and}
use Rattle.std.proofs.Math.Nat.{mod-mod}
use Rattle.std.proofs.lemmas.Nat.{and_shr, and_mod, and_mask}
use Rattle.rv_isa.specs.Fields.{field, funct3, funct7, rs2}
use Rattle.rv_isa.specs.internal.Candidate.{candidate, by_fields}
use Rattle.rv_isa.specs.Form.{mask_of}
use Rattle.rv_isa.specs.Table.{Matches, form_of, match_of}
use Rattle.rv_isa.specs.declared.form.Form.{Form}
use Rattle.rv_isa.specs.declared.form.Form.TheVariants.{R, I, S, B, U, J, Shift, Fence, Plain, Lr, Amo}
use Rattle.rv_isa.specs.declared.op.Op.{Op}
use Rattle.rv_isa.specs.declared.op.Op.TheVariants.{Lui}

-- Where a mask is all ones in a field, the masked word has the word's field.
field-from_mask : (low width w m v : ℕ) → field low width m ≡ 2 ^ width - 1 → bit_and w m ≡ v → field low width w ≡ field low width v
field-from_mask low width w m v ones is =
    sym (ap (field low width) (sym is) ∙ ap (λ n. n % 2 ^ width) (and_shr w m low) ∙ and_mod (w / 2 ^ low) (m / 2 ^ low) width ∙ ap (bit_and (field low width w)) ones ∙ and_mask (field low width w) width ∙ mod-mod (w / 2 ^ low) (2 ^ width))

-- A word's candidate by the fields that are fixed in a format, which the masked word has too.
abbrev by_fixed : Form → ℕ → ℕ → Op
by_fixed U v w = by_fields (field 0 7 v) (funct3 w) (funct7 w) (field 27 5 w) (rs2 w)
by_fixed J v w = by_fields (field 0 7 v) (funct3 w) (funct7 w) (field 27 5 w) (rs2 w)
by_fixed I v w = by_fields (field 0 7 v) (field 12 3 v) (funct7 w) (field 27 5 w) (rs2 w)
by_fixed S v w = by_fields (field 0 7 v) (field 12 3 v) (funct7 w) (field 27 5 w) (rs2 w)
by_fixed B v w = by_fields (field 0 7 v) (field 12 3 v) (funct7 w) (field 27 5 w) (rs2 w)
by_fixed Fence v w = by_fields (field 0 7 v) (field 12 3 v) (funct7 w) (field 27 5 w) (rs2 w)
by_fixed Shift v w = by_fields (field 0 7 v) (field 12 3 v) (field 25 7 v) (field 27 5 w) (rs2 w)
by_fixed R v w = by_fields (field 0 7 v) (field 12 3 v) (field 25 7 v) (field 27 5 w) (rs2 w)
by_fixed Plain v w = by_fields (field 0 7 v) (field 12 3 v) (funct7 w) (field 27 5 w) (field 20 5 v)
by_fixed Lr v w = by_fields (field 0 7 v) (field 12 3 v) (funct7 w) (field 27 5 v) (rs2 w)
by_fixed Amo v w = by_fields (field 0 7 v) (field 12 3 v) (funct7 w) (field 27 5 v) (rs2 w)

by_row : (f : Form) (w v : ℕ) → bit_and w (mask_of f) ≡ v → candidate w ≡ by_fixed f v w
unfolding candidate
by_row U w v h = rw (field-from_mask 0 7 w 0x7f v refl h)
by_row J w v h = rw (field-from_mask 0 7 w 0x7f v refl h)
by_row I w v h = rw (field-from_mask 0 7 w 0x707f v refl h, field-from_mask 12 3 w 0x707f v refl h)
by_row S w v h = rw (field-from_mask 0 7 w 0x707f v refl h, field-from_mask 12 3 w 0x707f v refl h)
by_row B w v h = rw (field-from_mask 0 7 w 0x707f v refl h, field-from_mask 12 3 w 0x707f v refl h)
by_row Fence w v h = rw (field-from_mask 0 7 w 0x707f v refl h, field-from_mask 12 3 w 0x707f v refl h)
by_row Shift w v h = rw (field-from_mask 0 7 w 0xfe00707f v refl h, field-from_mask 12 3 w 0xfe00707f v refl h, field-from_mask 25 7 w 0xfe00707f v refl h)
by_row R w v h = rw (field-from_mask 0 7 w 0xfe00707f v refl h, field-from_mask 12 3 w 0xfe00707f v refl h, field-from_mask 25 7 w 0xfe00707f v refl h)
by_row Plain w v h = rw (field-from_mask 0 7 w 0xffffffff v refl h, field-from_mask 12 3 w 0xffffffff v refl h, field-from_mask 20 5 w 0xffffffff v refl h)
by_row Lr w v h = rw (field-from_mask 0 7 w 0xf9f0707f v refl h, field-from_mask 12 3 w 0xf9f0707f v refl h, field-from_mask 27 5 w 0xf9f0707f v refl h)
by_row Amo w v h = rw (field-from_mask 0 7 w 0xf800707f v refl h, field-from_mask 12 3 w 0xf800707f v refl h, field-from_mask 27 5 w 0xf800707f v refl h)

-- No word matches two rows: it is the candidate's, or none. The checker computes each row's candidate.
pub candidate_is : (w : ℕ) (op : Op) → Matches w op → candidate w ≡ op
candidate_is w Lui h = by_row (form_of Lui) w (match_of Lui) h
candidate_is w op h = by_row (form_of op) w (match_of op) h
