use Rattle.std.proofs.Common.{◌≡◌, ℕ, true, false, Option, Some, None, refl, sym, ap, subst, ◌↔◌, ◌∙◌, arith, eq-eqb}
use Rattle.std.specs.Prelude.{option_map, IfSome, IsSome}
use Rattle.std.proofs.Math.Bool.{Bool-set}
use Rattle.std.proofs.lemmas.Bool.Decides.{nat_tests}
use Rattle.rv_isa.specs.Decoded.{op_at, with_operands, decoded}
use Rattle.rv_isa.specs.Instr.{Row, operands}
use Rattle.rv_isa.specs.declared.operands.Operands.{Operands}
use Rattle.rv_isa.specs.Operands.{are_operands}
use Rattle.rv_isa.specs.Table.{Matches, form_of, is_match, operations}
use Rattle.rv_isa.proofs.ListedLemmas.{each_listed, found_passes, only_is_found}
use Rattle.rv_isa.proofs.TableLemmas.{candidate_is}
use Rattle.rv_isa.specs.declared.instr.Instr.{Instr}
use Rattle.rv_isa.specs.declared.op.Op.{Op}

abbrev made : (op : Op) (o : Operands) → are_operands (form_of op) o ≡ true → Instr
made op o fits = record { op = op; rd = o.rd; rs1 = o.rs1; rs2 = o.rs2; imm = o.imm; aq = o.aq; rl = o.rl; in_range = fits }

made_same : (op op' : Op) → op ≡ op' → (o o' : Operands) → o ≡ o' → (h : are_operands (form_of op) o ≡ true) (h' : are_operands (form_of op') o' ≡ true) → made op o h ≡ made op' o' h'
made_same op op' e o o' f h =
    subst (λ (p : Op). (h' : are_operands (form_of p) o' ≡ true) → made op o h ≡ made p o' h') e
    (subst (λ (q : Operands). (h' : are_operands (form_of op) q ≡ true) → made op o h ≡ made op q h') f
    (λ h'. ap (made op o) (Bool-set _ _ h h')))

-- Two instructions with the same operation and operands are the same.
pub same_instr : (i j : Instr) → i.op ≡ j.op → operands i ≡ operands j → i ≡ j
same_instr i j e f = made_same i.op j.op e (operands i) (operands j) f i.in_range j.in_range

match_passed : (w : ℕ) (op : Op) → is_match w op ≡ true → Matches w op
match_passed w op h = grind (arith, nat_tests)

only_match : (w : ℕ) (op : Op) → Matches w op → (other : Op) → is_match w other ≡ true → other ≡ op
only_match w op h other passed = sym (candidate_is w other (match_passed w other passed)) ∙ candidate_is w op h

pub op_at-matches : (w : ℕ) (op : Op) → Matches w op → op_at w ≡ Some op
unfolding op_at
op_at-matches w op h =
    let there = each_listed op in
    let passed : is_match w op ≡ true = eq-eqb _ _ h in
    only_is_found (is_match w) operations there.0 op there.1 there.2 passed (only_match w op h)

pub op_at-some : (w : ℕ) (op : Op) → op_at w ≡ Some op → Matches w op
unfolding op_at
op_at-some w op h = match_passed w op (found_passes (is_match w) operations op h)

row_from_map : (o : Option Op) (w : ℕ) (i : Instr) → option_map (λ op. with_operands op w) o ≡ Some i → op_at w ≡ o → Row w i
row_from_map None w i found e = cc
row_from_map (Some op) w i found e =
    let same : with_operands op w ≡ i = cc in
    subst (λ (j : Instr). Row w j) same (record { matches = op_at-some w op e; operands = refl })

-- A word is decoded to an instruction exactly where it has the instruction's row.
pub decoded_row : (w : ℕ) (i : Instr) → (decoded w ≡ Some i) ↔ Row w i
decoded_row w i = (
  λ found. row_from_map (op_at w) w i found refl,
  λ r. rw (op_at-matches w i.op r.matches) (ap Some (same_instr (with_operands i.op w) i refl (sym r.operands))),
)

pub decoded_row_at : (r : Option Instr) (w : ℕ) → r ≡ decoded w → (i : Instr) → (r ≡ Some i) ↔ Row w i
decoded_row_at r w e i = rw e (decoded_row w i)

-- The word of an operation's row is that operation with the word's operands.
pub decoded_as : (w : ℕ) (op : Op) → Matches w op → decoded w ≡ Some (with_operands op w)
decoded_as w op h = rw (op_at-matches w op h) refl

decoded_none : (w : ℕ) (candidate : Op) (o : Option Op) → op_at w ≡ o → ((op : Op) → Matches w op → candidate ≡ op) → (Matches w candidate → ⊥) → option_map (λ op. with_operands op w) o ≡ None
decoded_none w candidate None e only other = refl
decoded_none w candidate (Some op) e only other =
    let row = op_at-some w op e in
    absurd (other (subst (Matches w) (sym (only op row)) row))

-- What is found by the row of the one operation that a word may be is what is found at all.
pub decoded_by_candidate : (w : ℕ) (candidate : Op) (o : Option Instr) → ((op : Op) → Matches w op → candidate ≡ op) → IfSome o (λ i. decoded w ≡ Some i) → (IsSome o ↔ Matches w candidate) → o ≡ decoded w
decoded_by_candidate w candidate (Some i) only found row = sym found
decoded_by_candidate w candidate None only found row = sym (decoded_none w candidate (op_at w) refl only (λ m. let none : false ≡ true = row.1 m in cc))
