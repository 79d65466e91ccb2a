-- The operands of each format, as a listing writes them, are read as the instruction's.
use Rattle.std.proofs.Common.{◌≡◌, ℕ, ℤ, pos, negsuc, ◌+◌, ◌/◌, ◌%◌, ◌^◌, ◌<◌, Bool, true, false, List, [], ◌∷◌, ◌++◌, Option, Some, Ok, length, refl, ap, sym, ◌∙◌, arith, length-append}
use Rattle.std.specs.Prelude.{Result, ◌==◌, nat_lt, not, option_map, ◌≤ℤ◌, ◌+ℤ◌, ◌*ℤ◌, unsigned_abs}
use Rattle.std.specs.List.{list_all}
use Rattle.std.specs.Fmt.{radix_digits, signed_decimal}
use Rattle.std.proofs.lemmas.Bool.{not-true}
use Rattle.std.proofs.lemmas.Bool.Decides.{nat_tests}
use Rattle.std.proofs.lemmas.Int.{ints}
use Rattle.rv_isa.specs.Instr.{operands}
use Rattle.rv_isa.specs.Operands.{InRange, is_within}
use Rattle.rv_isa.specs.declared.form.Form.TheVariants as form
use Rattle.rv_isa.specs.declared.instr.Instr.{Instr}
use Rattle.rv_text.specs.Hexadecimal.{WordIsReadBack}
use Rattle.rv_asm.specs.Instruction.{fields}
use Rattle.rv_asm.specs.Line.{operands_text, target_of}
use Rattle.rv_asm.specs.Mnemonics.{mnemonic, is_indexed}
use Rattle.rv_asm.specs.Number.{number}
use Rattle.rv_asm.specs.Operand.{counted, name_or_number, operand, operands_of}
use Rattle.rv_asm.specs.SourceLine.{expression_at, immediate_instr, indexed_instr, instr_of, one_instr, store_instr, within}
use Rattle.rv_asm.specs.Registers.{number_name}
use Rattle.rv_asm.specs.Text.{is_name}
use Rattle.rv_asm.specs.declared.reading.operand.Operand.{Operand}
use Rattle.rv_asm.specs.declared.reading.operand.Operand.TheVariants.{Name, Number, Memory, Base}
use Rattle.rv_asm.specs.declared.reading.operand.Operands.TheVariants.{One, Two, Three}
use Rattle.rv_asm.specs.declared.statement.AsmKind.{AsmKind}
use Rattle.rv_asm.specs.declared.statement.Expression.TheVariants as expression
use Rattle.rv_asm.specs.declared.statement.Statement.{Statement}
use Rattle.rv_asm.specs.declared.statement.Statement.TheVariants as statement
use Rattle.rv_asm.proofs.NumberTexts.{Reads, decimal_text, signed_text, upper_text, word_text}
use Rattle.rv_asm.proofs.PlainLemmas.{after_comma, all_append, base_operand, is_plain, last_operand, memory_operand, no_commas, plain_operand}
use Rattle.rv_asm.proofs.SourceLineLemmas.{operands_some}
use Rattle.rv_asm.proofs.RegisterTable.{named}

-- a text of one operand
pub record Atom (text : List ℕ) (o : Option Operand) : Type 0 where
  pub some : 0 < length text
  pub whole : list_all (λ c. not (c == 44)) text ≡ true
  pub is : operand text ≡ o

pub one_operand : (a : List ℕ) (x : Option Operand) → Atom a x → operands_of a ≡ One x
one_operand a x first = operands_some a first.some ∙ ap counted (last_operand a first.whole) ∙ ap One first.is

pub two_operands : (a b : List ℕ) (x y : Option Operand) → Atom a x → Atom b y → operands_of (a ++ (44 ∷ 32 ∷ b)) ≡ Two x y
two_operands a b x y first second =
    let some : 0 < length (a ++ (44 ∷ 32 ∷ b)) = omega (arith, length-append a (44 ∷ 32 ∷ b), first.some) in
    operands_some (a ++ (44 ∷ 32 ∷ b)) some ∙ ap counted (after_comma a b first.whole ∙ ap (λ l. operand a ∷ l) (last_operand b second.whole))
    ∙ ap (λ o. Two o (operand b)) first.is ∙ ap (λ o. Two x o) second.is

pub three_operands : (a b c : List ℕ) (x y z : Option Operand) → Atom a x → Atom b y → Atom c z → operands_of (a ++ (44 ∷ 32 ∷ (b ++ (44 ∷ 32 ∷ c)))) ≡ Three x y z
three_operands a b c x y z first second third =
    let some : 0 < length (a ++ (44 ∷ 32 ∷ (b ++ (44 ∷ 32 ∷ c)))) = omega (arith, length-append a (44 ∷ 32 ∷ (b ++ (44 ∷ 32 ∷ c))), first.some) in
    operands_some (a ++ (44 ∷ 32 ∷ (b ++ (44 ∷ 32 ∷ c)))) some
    ∙ ap counted (after_comma a (b ++ (44 ∷ 32 ∷ c)) first.whole ∙ ap (λ l. operand a ∷ l) (after_comma b c second.whole ∙ ap (λ l. operand b ∷ l) (last_operand c third.whole)))
    ∙ ap (λ o. Three o (operand b) (operand c)) first.is ∙ ap (λ o. Three x o (operand c)) second.is ∙ ap (λ o. Three x y o) third.is

-- ---- the operands of a listing

plain_read : (text : List ℕ) → 0 < length text → list_all is_plain text ≡ true → operand text ≡ name_or_number text
plain_read [] some plain = absurd (omega arith)
plain_read (c ∷ text) some plain = plain_operand c text plain

name_some : (text : List ℕ) → is_name text ≡ true → 0 < length text
name_some [] is = cc
name_some (c ∷ text) is = omega arith

pub register_atom : (r : ℕ) → r < 32 → Atom (number_name r) (Some (Name (number_name r)))
register_atom r small =
    let n = named r small in
    let some = name_some (number_name r) n.name in
    record { some = some; whole = no_commas (number_name r) n.plain; is = plain_read (number_name r) some n.plain ∙ rw n.name refl }

pub number_atom : (text : List ℕ) (z : ℤ) → Reads text z → Atom text (Some (Number (Some z)))
number_atom text z reads =
    record {
      some = reads.some;
      whole = no_commas text reads.plain;
      is = plain_read text reads.some reads.plain ∙ rw reads.no_name (ap (λ o. option_map Number o) reads.value);
    }

memory_read : (text name : List ℕ) → 0 < length text → list_all is_plain text ≡ true → list_all is_plain name ≡ true → is_name name ≡ true
    → operand (text ++ (40 ∷ (name ++ 41 ∷ []))) ≡ option_map (λ n. Memory n name) (number text)
memory_read [] name some plain name_plain is = absurd (omega arith)
memory_read (c ∷ text) name some plain name_plain is = memory_operand c text name plain name_plain is

close_whole : (name : List ℕ) → list_all is_plain name ≡ true → list_all (λ c. not (c == 44)) (40 ∷ (name ++ 41 ∷ [])) ≡ true
close_whole name plain = all_append (λ c. not (c == 44)) name (41 ∷ []) (no_commas name plain) refl

pub memory_atom : (text : List ℕ) (z : ℤ) (r : ℕ) → Reads text z → r < 32 → Atom (text ++ (40 ∷ (number_name r ++ 41 ∷ []))) (Some (Memory (Some z) (number_name r)))
memory_atom text z r reads small =
    let n = named r small in
    record {
      some = omega (arith, length-append text (40 ∷ (number_name r ++ 41 ∷ [])), reads.some);
      whole = all_append (λ c. not (c == 44)) text (40 ∷ (number_name r ++ 41 ∷ [])) (no_commas text reads.plain) (close_whole (number_name r) n.plain);
      is = memory_read text (number_name r) reads.some reads.plain n.plain n.name ∙ ap (λ o. option_map (λ n. Memory n (number_name r)) o) reads.value;
    }

pub base_atom : (r : ℕ) → r < 32 → Atom (40 ∷ (number_name r ++ 41 ∷ [])) (Some (Base (number_name r)))
base_atom r small =
    let n = named r small in
    record { some = omega arith; whole = close_whole (number_name r) n.plain; is = base_operand (number_name r) n.plain n.name }

pub below_32 : (r : ℕ) → nat_lt r 32 ≡ true → r < 32
below_32 r is = grind (arith, nat_tests)

pub below_256 : (n : ℕ) → nat_lt n 256 ≡ true → n < 256
below_256 n is = grind (arith, nat_tests)

pub is_none : (r : ℕ) → (r == 0) ≡ true → r ≡ 0
is_none r is = grind (arith, nat_tests)

no_immediate : (z : ℤ) → (unsigned_abs z == 0) ≡ true → z ≡ pos 0
no_immediate (pos n) is = ap pos (is_none n is)
no_immediate (negsuc n) is = grind (arith, nat_tests)

-- ---- the formats

-- what a jump is read as
abbrev pub jump_of : Instr → ℕ → Result Statement AsmKind
jump_of i target = Ok (statement.Jump i.op i.rd i.rs1 i.rs2 (expression.Number target))

same_fields : (i : Instr) (rd rs1 rs2 : ℕ) (imm : ℤ) → i.rd ≡ rd → i.rs1 ≡ rs1 → i.rs2 ≡ rs2 → i.imm ≡ imm → i.aq ≡ false → i.rl ≡ false → one_instr i.op (fields rd rs1 rs2 imm) ≡ one_instr i.op (operands i)
same_fields i rd rs1 rs2 imm is_rd is_rs1 is_rs2 is_imm is_aq is_rl = rw (← is_rd, ← is_rs1, ← is_rs2, ← is_imm, is_aq, is_rl) refl

pub registers_read : (i : Instr) (address : ℕ) → InRange form.R (operands i) → instr_of form.R (mnemonic i.op i.aq i.rl) (operands_of (operands_text form.R i address)) ≡ one_instr i.op (operands i)
registers_read i address f =
    let rd = below_32 i.rd f.rd in
    let rs1 = below_32 i.rs1 f.rs1 in
    let rs2 = below_32 i.rs2 f.rs2 in
    let text = three_operands _ _ _ _ _ _ (register_atom i.rd rd) (register_atom i.rs1 rs1) (register_atom i.rs2 rs2) in
    let n1 = (named i.rd rd).register in
    let n2 = (named i.rs1 rs1).register in
    let n3 = (named i.rs2 rs2).register in
    ap (λ o. instr_of form.R (mnemonic i.op i.aq i.rl) o) text ∙ rw (n1, n2, n3) (same_fields i i.rd i.rs1 i.rs2 (pos 0) refl refl refl (no_immediate i.imm f.imm) (not-true i.aq f.aq) (not-true i.rl f.rl))

pub signed_small : (z : ℤ) → is_within (negsuc 2047) (pos 2047) z ≡ true → Reads (signed_decimal z) z
signed_small z is =
    let low : negsuc 2147483647 ≤ℤ z = grind (arith, ints, nat_tests) in
    let high : z ≤ℤ pos 2147483647 = grind (arith, ints, nat_tests) in
    signed_text z low high

pub shift_small : (z : ℤ) → is_within (pos 0) (pos 31) z ≡ true → Reads (signed_decimal z) z
shift_small z is =
    let low : negsuc 2147483647 ≤ℤ z = grind (arith, ints, nat_tests) in
    let high : z ≤ℤ pos 2147483647 = grind (arith, ints, nat_tests) in
    signed_text z low high

immediate_read : (i : Instr) → i.rd < 32 → i.rs1 < 32 → Reads (signed_decimal i.imm) i.imm
    → immediate_instr i.op (operands_of (number_name i.rd ++ (44 ∷ 32 ∷ (number_name i.rs1 ++ (44 ∷ 32 ∷ signed_decimal i.imm))))) ≡ one_instr i.op (fields i.rd i.rs1 0 i.imm)
immediate_read i rd rs1 imm =
    let text = three_operands _ _ _ _ _ _ (register_atom i.rd rd) (register_atom i.rs1 rs1) (number_atom _ _ imm) in
    let n1 = (named i.rd rd).register in
    let n2 = (named i.rs1 rs1).register in
    ap (λ o. immediate_instr i.op o) text ∙ rw (n1, n2) refl

indexed_read : (i : Instr) → i.rd < 32 → i.rs1 < 32 → Reads (signed_decimal i.imm) i.imm
    → indexed_instr i.op (operands_of (number_name i.rd ++ (44 ∷ 32 ∷ (signed_decimal i.imm ++ (40 ∷ (number_name i.rs1 ++ 41 ∷ [])))))) ≡ one_instr i.op (fields i.rd i.rs1 0 i.imm)
indexed_read i rd rs1 imm =
    let text = two_operands _ _ _ _ (register_atom i.rd rd) (memory_atom (signed_decimal i.imm) i.imm i.rs1 imm rs1) in
    let n1 = (named i.rd rd).register in
    let n2 = (named i.rs1 rs1).register in
    ap (λ o. indexed_instr i.op o) text ∙ rw (n1, n2) refl

store_read : (i : Instr) → i.rs2 < 32 → i.rs1 < 32 → Reads (signed_decimal i.imm) i.imm
    → store_instr i.op (operands_of (number_name i.rs2 ++ (44 ∷ 32 ∷ (signed_decimal i.imm ++ (40 ∷ (number_name i.rs1 ++ 41 ∷ [])))))) ≡ one_instr i.op (fields 0 i.rs1 i.rs2 i.imm)
store_read i rs2 rs1 imm =
    let text = two_operands _ _ _ _ (register_atom i.rs2 rs2) (memory_atom (signed_decimal i.imm) i.imm i.rs1 imm rs1) in
    let n1 = (named i.rs2 rs2).register in
    let n2 = (named i.rs1 rs1).register in
    ap (λ o. store_instr i.op o) text ∙ rw (n1, n2) refl

pub shifts_read : (i : Instr) (address : ℕ) → InRange form.Shift (operands i) → instr_of form.Shift (mnemonic i.op i.aq i.rl) (operands_of (operands_text form.Shift i address)) ≡ one_instr i.op (operands i)
shifts_read i address f =
    immediate_read i (below_32 i.rd f.rd) (below_32 i.rs1 f.rs1) (shift_small i.imm f.imm)
    ∙ same_fields i i.rd i.rs1 0 i.imm refl refl (is_none i.rs2 f.rs2) refl (not-true i.aq f.aq) (not-true i.rl f.rl)

immediates_by : (i : Instr) (address : ℕ) (b : Bool) → is_indexed i.op ≡ b → InRange form.I (operands i)
    → instr_of form.I (mnemonic i.op i.aq i.rl) (operands_of (operands_text form.I i address)) ≡ one_instr i.op (operands i)
immediates_by i address true indexed f =
    rw indexed
    (indexed_read i (below_32 i.rd f.rd) (below_32 i.rs1 f.rs1) (signed_small i.imm f.imm)
    ∙ same_fields i i.rd i.rs1 0 i.imm refl refl (is_none i.rs2 f.rs2) refl (not-true i.aq f.aq) (not-true i.rl f.rl))
immediates_by i address false indexed f =
    rw indexed
    (immediate_read i (below_32 i.rd f.rd) (below_32 i.rs1 f.rs1) (signed_small i.imm f.imm)
    ∙ same_fields i i.rd i.rs1 0 i.imm refl refl (is_none i.rs2 f.rs2) refl (not-true i.aq f.aq) (not-true i.rl f.rl))

pub immediates_read : (i : Instr) (address : ℕ) → InRange form.I (operands i) → instr_of form.I (mnemonic i.op i.aq i.rl) (operands_of (operands_text form.I i address)) ≡ one_instr i.op (operands i)
immediates_read i address f = immediates_by i address (is_indexed i.op) refl f

pub stores_read : (i : Instr) (address : ℕ) → InRange form.S (operands i) → instr_of form.S (mnemonic i.op i.aq i.rl) (operands_of (operands_text form.S i address)) ≡ one_instr i.op (operands i)
stores_read i address f =
    store_read i (below_32 i.rs2 f.rs2) (below_32 i.rs1 f.rs1) (signed_small i.imm f.imm)
    ∙ same_fields i 0 i.rs1 i.rs2 i.imm (is_none i.rd f.rd) refl refl refl (not-true i.aq f.aq) (not-true i.rl f.rl)

-- ---- targets

expression_number : (n : ℕ) → n < 2 ^ 32 → expression_at (Some (Number (Some (pos n)))) ≡ Ok (expression.Number n)
unfolding expression_at
expression_number n small = let bits : n % 2 ^ 32 ≡ n = omega arith in rw bits refl

pub target_small : (address : ℕ) (z : ℤ) → target_of address z < 2 ^ 32
target_small address z = omega arith

pub branches_read : WordIsReadBack → (i : Instr) (address : ℕ) → InRange form.B (operands i) → instr_of form.B (mnemonic i.op i.aq i.rl) (operands_of (operands_text form.B i address)) ≡ jump_of i (target_of address i.imm)
branches_read back i address f =
    let rs1 = below_32 i.rs1 f.rs1 in
    let rs2 = below_32 i.rs2 f.rs2 in
    let target : ℕ = target_of address i.imm in
    let small : target < 2 ^ 32 = target_small address i.imm in
    let text = three_operands _ _ _ _ _ _ (register_atom i.rs1 rs1) (register_atom i.rs2 rs2) (number_atom _ _ (word_text back target small)) in
    let n1 = (named i.rs1 rs1).register in
    let n2 = (named i.rs2 rs2).register in
    let number = expression_number target small in
    let rd = is_none i.rd f.rd in
    ap (λ o. instr_of form.B (mnemonic i.op i.aq i.rl) o) text ∙ rw (n1, n2, number, rd) refl

pub jumps_read : WordIsReadBack → (i : Instr) (address : ℕ) → InRange form.J (operands i) → instr_of form.J (mnemonic i.op i.aq i.rl) (operands_of (operands_text form.J i address)) ≡ jump_of i (target_of address i.imm)
jumps_read back i address f =
    let rd = below_32 i.rd f.rd in
    let target : ℕ = target_of address i.imm in
    let small : target < 2 ^ 32 = target_small address i.imm in
    let text = two_operands _ _ _ _ (register_atom i.rd rd) (number_atom _ _ (word_text back target small)) in
    let n1 = (named i.rd rd).register in
    let number = expression_number target small in
    let rs1 = is_none i.rs1 f.rs1 in
    let rs2 = is_none i.rs2 f.rs2 in
    ap (λ o. instr_of form.J (mnemonic i.op i.aq i.rl) o) text ∙ rw (n1, number, rs1, rs2) refl

-- ---- numbers without a sign

magnitude_is : (limit : ℕ) (z : ℤ) → is_within (pos 0) (pos limit) z ≡ true → (pos (unsigned_abs z) ≡ z) × (unsigned_abs z < limit + 1)
magnitude_is limit z is = (grind (arith, ints, nat_tests), grind (arith, ints, nat_tests))

pub upper_small : (z : ℤ) → is_within (pos 0) (pos 0xfffff) z ≡ true → Reads (48 ∷ 120 ∷ radix_digits 16 false (unsigned_abs z)) (pos (unsigned_abs z))
upper_small z is = let imm = magnitude_is 0xfffff z is in let small : unsigned_abs z < 2 ^ 32 = omega (arith, imm.1) in upper_text (unsigned_abs z) small

pub uppers_read : (i : Instr) (address : ℕ) → InRange form.U (operands i) → instr_of form.U (mnemonic i.op i.aq i.rl) (operands_of (operands_text form.U i address)) ≡ one_instr i.op (operands i)
uppers_read i address f =
    let rd = below_32 i.rd f.rd in
    let imm = magnitude_is 0xfffff i.imm f.imm in
    let small : unsigned_abs i.imm < 2 ^ 32 = omega (arith, imm.1) in
    let text = two_operands _ _ _ _ (register_atom i.rd rd) (number_atom _ _ (upper_text (unsigned_abs i.imm) small)) in
    let n1 = (named i.rd rd).register in
    ap (λ o. instr_of form.U (mnemonic i.op i.aq i.rl) o) text
    ∙ rw n1 (same_fields i i.rd 0 0 (pos (unsigned_abs i.imm)) refl (is_none i.rs1 f.rs1) (is_none i.rs2 f.rs2) (sym imm.0) (not-true i.aq f.aq) (not-true i.rl f.rl))

within_order : (n : ℕ) → n < 16 → within (pos 0) (pos 15) (pos n) ≡ Ok (pos n)
unfolding within
within_order n small = let test : is_within (pos 0) (pos 15) (pos n) ≡ true = grind (arith, ints, nat_tests) in rw test refl

order_bits : (n : ℕ) → pos (n / 16) *ℤ pos 16 +ℤ pos (n % 16) ≡ pos n
order_bits n = grind (arith, ints)

pub fences_read : (i : Instr) (address : ℕ) → InRange form.Fence (operands i) → i.rd ≡ 0 → i.rs1 ≡ 0 → unsigned_abs i.imm < 256
    → instr_of form.Fence (mnemonic i.op i.aq i.rl) (operands_of (operands_text form.Fence i address)) ≡ one_instr i.op (operands i)
fences_read i address f rd rs1 small =
    let n : ℕ = unsigned_abs i.imm in
    let imm = magnitude_is 4095 i.imm f.imm in
    let before : n / 16 < 16 = omega arith in
    let after : n % 16 < 16 = omega arith in
    let text = two_operands _ _ _ _ (number_atom _ _ (decimal_text (n / 16) (omega arith))) (number_atom _ _ (decimal_text (n % 16) (omega arith))) in
    let first = within_order (n / 16) before in
    let second = within_order (n % 16) after in
    ap (λ o. instr_of form.Fence (mnemonic i.op i.aq i.rl) o) text
    ∙ rw (first, second) (same_fields i 0 0 0 _ rd rs1 (is_none i.rs2 f.rs2) (sym (order_bits n ∙ imm.0)) (not-true i.aq f.aq) (not-true i.rl f.rl))

-- ---- no operands

pub plains_read : (i : Instr) → InRange form.Plain (operands i) → instr_of form.Plain (mnemonic i.op i.aq i.rl) (operands_of []) ≡ one_instr i.op (operands i)
plains_read i f =
    same_fields i 0 0 0 (pos 0) (is_none i.rd f.rd) (is_none i.rs1 f.rs1) (is_none i.rs2 f.rs2) (no_immediate i.imm f.imm) (not-true i.aq f.aq) (not-true i.rl f.rl)

-- ---- atomics

same_atomic : (i : Instr) (rs2 : ℕ) → i.rs2 ≡ rs2 → i.imm ≡ pos 0 → one_instr i.op (record (fields i.rd i.rs1 rs2 (pos 0)) { aq = i.aq; rl = i.rl }) ≡ one_instr i.op (operands i)
same_atomic i rs2 is_rs2 is_imm = rw (← is_rs2, is_imm) refl

pub reserves_read : (i : Instr) (address : ℕ) → InRange form.Lr (operands i) → instr_of form.Lr (mnemonic i.op i.aq i.rl) (operands_of (operands_text form.Lr i address)) ≡ one_instr i.op (operands i)
reserves_read i address f =
    let rd = below_32 i.rd f.rd in
    let rs1 = below_32 i.rs1 f.rs1 in
    let text = two_operands _ _ _ _ (register_atom i.rd rd) (base_atom i.rs1 rs1) in
    let n1 = (named i.rd rd).register in
    let n2 = (named i.rs1 rs1).register in
    ap (λ o. instr_of form.Lr (mnemonic i.op i.aq i.rl) o) text ∙ rw (n1, n2) (same_atomic i 0 (is_none i.rs2 f.rs2) (no_immediate i.imm f.imm))

pub atomics_read : (i : Instr) (address : ℕ) → InRange form.Amo (operands i) → instr_of form.Amo (mnemonic i.op i.aq i.rl) (operands_of (operands_text form.Amo i address)) ≡ one_instr i.op (operands i)
atomics_read i address f =
    let rd = below_32 i.rd f.rd in
    let rs1 = below_32 i.rs1 f.rs1 in
    let rs2 = below_32 i.rs2 f.rs2 in
    let text = three_operands _ _ _ _ _ _ (register_atom i.rd rd) (register_atom i.rs2 rs2) (base_atom i.rs1 rs1) in
    let n1 = (named i.rd rd).register in
    let n2 = (named i.rs2 rs2).register in
    let n3 = (named i.rs1 rs1).register in
    ap (λ o. instr_of form.Amo (mnemonic i.op i.aq i.rl) o) text ∙ rw (n1, n2, n3) (same_atomic i i.rs2 refl (no_immediate i.imm f.imm))
