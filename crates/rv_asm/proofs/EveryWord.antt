-- Every word's line is read as the word.
use Rattle.std.proofs.Common.{◌≡◌, ℕ, ℤ, pos, negsuc, ◌+◌, ◌-◌, ◌/◌, ◌%◌, ◌^◌, ◌<◌, Bool, true, false, List, [], ◌∷◌, ◌++◌, Option, Some, None, Ok, Err, length, refl, ap, sym, ◌∙◌, arith, append-nil}
use Rattle.std.specs.Prelude.{◌==◌, ◌&&◌, nat_lt, if◌then◌else◌, codes, unsigned_abs}
use Rattle.std.specs.List.{list_all}
use Rattle.std.specs.Int.{cast_unsigned, w32}
use Rattle.rv_isa.specs.Fields.{signed}
use Rattle.rv_asm.specs.Laws.{EveryWordIsReadBack}
use Rattle.std.specs.Fmt.{signed_decimal}
use Rattle.std.proofs.lemmas.Bool.{and_parts, not-true}
use Rattle.std.proofs.lemmas.Bool.Decides.{nat_tests}
use Rattle.std.proofs.lemmas.Int.{ints}
use Rattle.rv_isa.specs.Decoded.{decoded}
use Rattle.rv_isa.specs.Encoded.{encoded}
use Rattle.rv_isa.specs.Instr.{operands}
use Rattle.rv_isa.specs.Operands.{InRange, is_within}
use Rattle.rv_isa.specs.Table.{form_of}
use Rattle.rv_isa.specs.TableLaws.{FunctionsOfTheTable, RangesByField}
use Rattle.rv_isa.specs.declared.form.Form.{Form}
use Rattle.rv_isa.specs.declared.form.Form.TheVariants as form
use Rattle.rv_isa.specs.declared.instr.Instr.{Instr}
use Rattle.rv_text.specs.Hexadecimal.{word_digits, WordIsReadBack}
use Rattle.rv_memory.specs.Chain.{◌>>=◌}
use Rattle.rv_asm.specs.Alone.{alone, keyword_word, one_word, unlabelled_word, word_said, word_in}
use Rattle.rv_asm.specs.Instruction.{distance, fields, instruction}
use Rattle.rv_asm.specs.Keyword.{keyword_of}
use Rattle.rv_asm.specs.Line.{instr_line, is_written, line, line_or_word, operands_text, target_of, with_operands, word_line}
use Rattle.rv_asm.specs.Mnemonics.{is_indexed, mnemonic}
use Rattle.rv_asm.specs.Operand.{operands_of}
use Rattle.rv_asm.specs.SourceLine.{after_colon, first_word, instr_of, one_instr, operand_text, statement_of, uncommented}
use Rattle.rv_asm.specs.Registers.{number_name}
use Rattle.rv_asm.specs.Text.{is_name_byte, since}
use Rattle.rv_asm.specs.declared.reading.keyword.Directive.TheVariants.{Word}
use Rattle.rv_asm.specs.declared.reading.keyword.Keyword.{Keyword}
use Rattle.rv_asm.specs.declared.reading.keyword.Keyword.TheVariants as keyword
use Rattle.rv_asm.specs.declared.reading.mnemonic.Mnemonic.{Mnemonic}
use Rattle.rv_asm.specs.declared.reading.text.Stop.TheVariants.{Blank, Filled, NameEnd}
use Rattle.rv_asm.specs.declared.statement.AsmKind.TheVariants as kind
use Rattle.rv_asm.specs.declared.statement.Statement.{Statement}
use Rattle.rv_asm.specs.declared.statement.Statement.TheVariants as statement
use Rattle.rv_asm.proofs.FormLemmas as forms
use Rattle.rv_asm.proofs.InstructionLemmas.{instruction_is}
use Rattle.rv_asm.proofs.MnemonicTable.{mnemonic_back, spelled, spelled_bytes}
use Rattle.rv_asm.proofs.NumberTexts.{Reads, decimal_text, word_text}
use Rattle.rv_asm.proofs.PlainLemmas.{all_append, ascii_all, before-append, before-all, clean_all, filled_front, is_clean, is_plain, last_piece, name_blank_all, name_plain_all, name_run_all, one_line, since-append, since-all, uncommented_all}
use Rattle.rv_asm.proofs.RegisterTable.{named}

-- ---- from a line to its keyword and operands

clean_line : (text : List ℕ) (address : ℕ) → list_all is_clean text ≡ true → since Filled text ≡ text → word_said text address ≡ word_in text address
unfolding word_said
clean_line text address clean filled =
    let feed = one_line text clean in
    let bare : uncommented text ≡ text = ap (λ t. since Filled t) (uncommented_all text clean) ∙ filled in
    rw (feed, bare) refl

named_some : (word : List ℕ) (k : Keyword) → keyword_of word ≡ Ok k → 0 < length word
unfolding keyword_of
named_some [] k is = cc
named_some (c ∷ word) k is = omega arith

-- a line of a word and operands
pub spoken : (word ops : List ℕ) (k : Keyword) (address : ℕ) → list_all is_name_byte word ≡ true → list_all is_clean ops ≡ true → since Filled ops ≡ ops → keyword_of word ≡ Ok k
    → word_said (word ++ (32 ∷ ops)) address ≡ keyword_word k ops address
spoken word ops k address bytes clean filled named =
    let some = named_some word k named in
    let text : List ℕ = word ++ (32 ∷ ops) in
    let plain = name_plain_all word bytes in
    let all : list_all is_clean text ≡ true = all_append is_clean word (32 ∷ ops) (clean_all word plain) clean in
    let label : since NameEnd text ≡ 32 ∷ ops = since-append NameEnd word (32 ∷ ops) (name_run_all word bytes) in
    let first : first_word text ≡ word = before-append Blank word (32 ∷ ops) (name_blank_all word bytes) ∙ append-nil word in
    let rest : operand_text text ≡ ops = ap (λ t. since Filled t) (since-append Blank word (32 ∷ ops) (name_blank_all word bytes)) ∙ filled in
    let ascii = ascii_all text all in
    clean_line text address all (filled_front word (32 ∷ ops) some plain)
    ∙ ap (λ t. unlabelled_word (after_colon t) text address) label
    ∙ ap (λ b. if b then (keyword_of (first_word text) >>= λ k. keyword_word k (operand_text text) address) else Err kind.Word) ascii
    ∙ ap (λ w. keyword_of w >>= λ k. keyword_word k (operand_text text) address) first
    ∙ ap (λ r. r >>= λ k. keyword_word k (operand_text text) address) named
    ∙ ap (λ t. keyword_word k t address) rest

-- a line of a word alone
pub spoken_alone : (word : List ℕ) (k : Keyword) (address : ℕ) → list_all is_name_byte word ≡ true → keyword_of word ≡ Ok k → word_said word address ≡ keyword_word k [] address
spoken_alone word k address bytes named =
    let some = named_some word k named in
    let plain = name_plain_all word bytes in
    let all : list_all is_clean word ≡ true = clean_all word plain in
    let filled : since Filled word ≡ word = ap (λ t. since Filled t) (sym (append-nil word)) ∙ filled_front word [] some plain ∙ append-nil word in
    let label : since NameEnd word ≡ [] = since-all NameEnd word (name_run_all word bytes) in
    let first : first_word word ≡ word = before-all Blank word (name_blank_all word bytes) in
    let rest : operand_text word ≡ [] = ap (λ t. since Filled t) (since-all Blank word (name_blank_all word bytes)) in
    let ascii = ascii_all word all in
    clean_line word address all filled
    ∙ ap (λ t. unlabelled_word (after_colon t) word address) label
    ∙ ap (λ b. if b then (keyword_of (first_word word) >>= λ k. keyword_word k (operand_text word) address) else Err kind.Word) ascii
    ∙ ap (λ w. keyword_of w >>= λ k. keyword_word k (operand_text word) address) first
    ∙ ap (λ r. r >>= λ k. keyword_word k (operand_text word) address) named
    ∙ ap (λ t. keyword_word k t address) rest

-- ---- from a keyword to its word

instr_word : (m : Mnemonic) (ops : List ℕ) (s : Statement) (address : ℕ) → instr_of (form_of m.op) m (operands_of ops) ≡ Ok s → keyword_word (keyword.Instr m) ops address ≡ one_word s address
unfolding keyword_word alone statement_of
instr_word m ops s address said = rw said refl

one_said : (i : Instr) → one_instr i.op (operands i) ≡ Ok (statement.Instr i)
one_said i = rw (instruction_is i) refl

-- the word of an instruction that is read from its operands
pub plain_word : (i : Instr) (ops : List ℕ) (address : ℕ) → instr_of (form_of i.op) (mnemonic i.op i.aq i.rl) (operands_of ops) ≡ one_instr i.op (operands i)
    → keyword_word (keyword.Instr (mnemonic i.op i.aq i.rl)) ops address ≡ Ok (encoded i)
plain_word i ops address said = instr_word (mnemonic i.op i.aq i.rl) ops (statement.Instr i) address (said ∙ one_said i)

jump_back : (i : Instr) (address : ℕ) → i.aq ≡ false → i.rl ≡ false → distance address (target_of address i.imm) ≡ i.imm → fields i.rd i.rs1 i.rs2 (distance address (target_of address i.imm)) ≡ operands i
jump_back i address is_aq is_rl is_imm = rw (is_imm, is_aq, is_rl) refl

pub jump_word_is : (i : Instr) (ops : List ℕ) (address : ℕ) → i.aq ≡ false → i.rl ≡ false → distance address (target_of address i.imm) ≡ i.imm
    → instr_of (form_of i.op) (mnemonic i.op i.aq i.rl) (operands_of ops) ≡ forms.jump_of i (target_of address i.imm) → keyword_word (keyword.Instr (mnemonic i.op i.aq i.rl)) ops address ≡ Ok (encoded i)
jump_word_is i ops address is_aq is_rl is_imm said =
    instr_word (mnemonic i.op i.aq i.rl) ops _ address said
    ∙ ap (λ o. instruction i.op o >>= λ i. Ok (encoded i)) (jump_back i address is_aq is_rl is_imm)
    ∙ ap (λ r. r >>= λ i. Ok (encoded i)) (instruction_is i)

-- ---- distances

wide : (z : ℤ) → is_within (negsuc 4095) (pos 4094) z ≡ true → is_within (negsuc 1048575) (pos 1048574) z ≡ true
wide z is = grind (arith, ints, nat_tests)

bits_small : (z : ℤ) → is_within (negsuc 1048575) (pos 1048574) z ≡ true → cast_unsigned w32 z < 2 ^ 32
bits_small z is = grind (arith, ints, nat_tests)

signed_back : (z : ℤ) → is_within (negsuc 1048575) (pos 1048574) z ≡ true → signed 32 (cast_unsigned w32 z) ≡ z
signed_back z is = grind (arith, ints, nat_tests)

there_and_back : (a u : ℕ) → a < 2 ^ 32 → u < 2 ^ 32 → ((a + u) % 2 ^ 32 + (2 ^ 32 - a)) % 2 ^ 32 ≡ u
there_and_back a u small bits = omega arith

distance_back : (address : ℕ) (z : ℤ) → address < 2 ^ 32 → is_within (negsuc 1048575) (pos 1048574) z ≡ true → distance address (target_of address z) ≡ z
distance_back address z small is = ap (λ n. signed 32 n) (there_and_back address (cast_unsigned w32 z) small (bits_small z is)) ∙ signed_back z is

-- ---- operands of clean bytes

pub record Clean (ops : List ℕ) : Type 0 where
  pub clean : list_all is_clean ops ≡ true
  pub filled : since Filled ops ≡ ops

begun : (a rest : List ℕ) → 0 < length a → list_all is_plain a ≡ true → list_all is_clean rest ≡ true → Clean (a ++ rest)
begun a rest some plain clean = record { clean = all_append is_clean a rest (clean_all a plain) clean; filled = filled_front a rest some plain }

register_clean : (r : ℕ) → r < 32 → list_all is_clean (number_name r) ≡ true
register_clean r small = clean_all (number_name r) (named r small).plain

by_register : (r : ℕ) (rest : List ℕ) → r < 32 → list_all is_clean rest ≡ true → Clean (number_name r ++ rest)
by_register r rest small clean = begun (number_name r) rest (forms.register_atom r small).some (named r small).plain clean

in_parentheses : (text : List ℕ) (r : ℕ) → list_all is_clean text ≡ true → r < 32 → list_all is_clean (text ++ (40 ∷ (number_name r ++ 41 ∷ []))) ≡ true
in_parentheses text r clean small =
    all_append is_clean text (40 ∷ (number_name r ++ 41 ∷ [])) clean (all_append is_clean (number_name r) (41 ∷ []) (register_clean r small) refl)

after_register : (r : ℕ) (rest : List ℕ) → r < 32 → list_all is_clean rest ≡ true → list_all is_clean (number_name r ++ (44 ∷ 32 ∷ rest)) ≡ true
after_register r rest small clean = all_append is_clean (number_name r) (44 ∷ 32 ∷ rest) (register_clean r small) clean

number_clean : (text : List ℕ) (z : ℤ) → Reads text z → list_all is_clean text ≡ true
number_clean text z reads = clean_all text reads.plain

-- ---- instructions

-- the instruction's mnemonic is read as its operation and ordering bits
abbrev Named : Instr → Type 0
Named i = keyword_of (spelled i.op i.aq i.rl) ≡ Ok (keyword.Instr (mnemonic i.op i.aq i.rl))

-- the line of an instruction whose operands are read as its own
said : (i : Instr) (f : Form) (ops : List ℕ) (address : ℕ) → Named i → form_of i.op ≡ f → Clean ops → instr_of f (mnemonic i.op i.aq i.rl) (operands_of ops) ≡ one_instr i.op (operands i)
    → word_said (spelled i.op i.aq i.rl ++ (32 ∷ ops)) address ≡ Ok (encoded i)
said i f ops address named is c reads =
    spoken (spelled i.op i.aq i.rl) ops _ address (spelled_bytes i.op i.aq i.rl) c.clean c.filled named
    ∙ plain_word i ops address (ap (λ f. instr_of f (mnemonic i.op i.aq i.rl) (operands_of ops)) is ∙ reads)

jump_said : (i : Instr) (f : Form) (ops : List ℕ) (address : ℕ) → Named i → form_of i.op ≡ f → Clean ops → i.aq ≡ false → i.rl ≡ false → distance address (target_of address i.imm) ≡ i.imm
    → instr_of f (mnemonic i.op i.aq i.rl) (operands_of ops) ≡ forms.jump_of i (target_of address i.imm) → word_said (spelled i.op i.aq i.rl ++ (32 ∷ ops)) address ≡ Ok (encoded i)
jump_said i f ops address named is c is_aq is_rl is_imm reads =
    spoken (spelled i.op i.aq i.rl) ops _ address (spelled_bytes i.op i.aq i.rl) c.clean c.filled named
    ∙ jump_word_is i ops address is_aq is_rl is_imm (ap (λ f. instr_of f (mnemonic i.op i.aq i.rl) (operands_of ops)) is ∙ reads)

plain_said : (i : Instr) (address : ℕ) → form_of i.op ≡ form.Plain → InRange form.Plain (operands i) → Named i → word_said (spelled i.op i.aq i.rl) address ≡ Ok (encoded i)
plain_said i address is f named =
    spoken_alone (spelled i.op i.aq i.rl) _ address (spelled_bytes i.op i.aq i.rl) named
    ∙ plain_word i [] address (ap (λ f. instr_of f (mnemonic i.op i.aq i.rl) (operands_of [])) is ∙ forms.plains_read i f)

fence_parts : (i : Instr) → is_written form.Fence i ≡ true → (i.rd ≡ 0) × (i.rs1 ≡ 0) × (unsigned_abs i.imm < 256)
fence_parts i written =
    let parts = and_parts (i.rd == 0 && i.rs1 == 0) (nat_lt (unsigned_abs i.imm) 256) written in
    let first = and_parts (i.rd == 0) (i.rs1 == 0) parts.0 in
    (forms.is_none i.rd first.0, forms.is_none i.rs1 first.1, forms.below_256 (unsigned_abs i.imm) parts.1)

indexed_clean : (i : Instr) (address : ℕ) (b : Bool) → is_indexed i.op ≡ b → i.rd < 32 → i.rs1 < 32 → Reads (signed_decimal i.imm) i.imm → Clean (operands_text form.I i address)
indexed_clean i address true indexed rd rs1 imm = rw indexed (by_register i.rd _ rd (in_parentheses (signed_decimal i.imm) i.rs1 (number_clean _ _ imm) rs1))
indexed_clean i address false indexed rd rs1 imm = rw indexed (by_register i.rd _ rd (after_register i.rs1 _ rs1 (number_clean _ _ imm)))

by_form : WordIsReadBack → (i : Instr) (address : ℕ) (f : Form) → address < 2 ^ 32 → form_of i.op ≡ f → InRange f (operands i) → Named i → is_written f i ≡ true
    → word_said (with_operands f (spelled i.op i.aq i.rl) (operands_text f i address)) address ≡ Ok (encoded i)
by_form back i address form.R small is f named written =
    said i form.R _ address named is (by_register i.rd _ (forms.below_32 i.rd f.rd) (after_register i.rs1 _ (forms.below_32 i.rs1 f.rs1) (register_clean i.rs2 (forms.below_32 i.rs2 f.rs2)))) (forms.registers_read i address f)
by_form back i address form.I small is f named written =
    said i form.I _ address named is (indexed_clean i address (is_indexed i.op) refl (forms.below_32 i.rd f.rd) (forms.below_32 i.rs1 f.rs1) (forms.signed_small i.imm f.imm)) (forms.immediates_read i address f)
by_form back i address form.S small is f named written =
    said i form.S _ address named is (by_register i.rs2 _ (forms.below_32 i.rs2 f.rs2) (in_parentheses (signed_decimal i.imm) i.rs1 (number_clean _ _ (forms.signed_small i.imm f.imm)) (forms.below_32 i.rs1 f.rs1))) (forms.stores_read i address f)
by_form back i address form.B small is f named written =
    let imm = wide i.imm (and_parts (is_within (negsuc 4095) (pos 4094) i.imm) _ f.imm).0 in
    jump_said i form.B _ address named is
    (by_register i.rs1 _ (forms.below_32 i.rs1 f.rs1) (after_register i.rs2 _ (forms.below_32 i.rs2 f.rs2) (number_clean _ _ (word_text back (target_of address i.imm) (forms.target_small address i.imm)))))
    (not-true i.aq f.aq) (not-true i.rl f.rl) (distance_back address i.imm small imm) (forms.branches_read back i address f)
by_form back i address form.U small is f named written =
    said i form.U _ address named is (by_register i.rd _ (forms.below_32 i.rd f.rd) (number_clean _ _ (forms.upper_small i.imm f.imm))) (forms.uppers_read i address f)
by_form back i address form.J small is f named written =
    let imm = (and_parts (is_within (negsuc 1048575) (pos 1048574) i.imm) _ f.imm).0 in
    jump_said i form.J _ address named is (by_register i.rd _ (forms.below_32 i.rd f.rd) (number_clean _ _ (word_text back (target_of address i.imm) (forms.target_small address i.imm))))
    (not-true i.aq f.aq) (not-true i.rl f.rl) (distance_back address i.imm small imm) (forms.jumps_read back i address f)
by_form back i address form.Shift small is f named written =
    said i form.Shift _ address named is (by_register i.rd _ (forms.below_32 i.rd f.rd) (after_register i.rs1 _ (forms.below_32 i.rs1 f.rs1) (number_clean _ _ (forms.shift_small i.imm f.imm)))) (forms.shifts_read i address f)
by_form back i address form.Fence small is f named written =
    let parts = fence_parts i written in
    let before = decimal_text (unsigned_abs i.imm / 16) (omega (arith, parts.2)) in
    let after = decimal_text (unsigned_abs i.imm % 16) (omega arith) in
    said i form.Fence _ address named is (begun _ _ before.some before.plain (number_clean _ _ after)) (forms.fences_read i address f parts.0 parts.1 parts.2)
by_form back i address form.Plain small is f named written = plain_said i address is f named
by_form back i address form.Lr small is f named written =
    said i form.Lr _ address named is (by_register i.rd _ (forms.below_32 i.rd f.rd) (in_parentheses [] i.rs1 refl (forms.below_32 i.rs1 f.rs1))) (forms.reserves_read i address f)
by_form back i address form.Amo small is f named written =
    said i form.Amo _ address named is (by_register i.rd _ (forms.below_32 i.rd f.rd) (after_register i.rs2 _ (forms.below_32 i.rs2 f.rs2) (in_parentheses [] i.rs1 refl (forms.below_32 i.rs1 f.rs1)))) (forms.atomics_read i address f)

-- ---- words without an instruction's line

word_named : keyword_of (codes ".word") ≡ Ok (keyword.Directive Word)
unfolding keyword_of
word_named = refl

number_word : (text : List ℕ) (n address : ℕ) → n < 2 ^ 32 → Reads text (pos n) → keyword_word (keyword.Directive Word) text address ≡ Ok n
unfolding keyword_word alone statement_of
number_word text n address small reads =
    let atom = forms.number_atom text (pos n) reads in
    let is = atom.is in
    let one = forms.one_operand text _ atom in
    let pieces = last_piece text atom.whole in
    let bits : n % 2 ^ 32 ≡ n = omega arith in
    rw (one, pieces, is, bits) refl

pub word_line_back : WordIsReadBack → (word address : ℕ) → word < 2 ^ 32 → word_said (word_line word) address ≡ Ok word
word_line_back back word address small =
    let reads = word_text back word small in
    spoken (codes ".word") (48 ∷ 120 ∷ word_digits word) _ address refl (clean_all (48 ∷ 120 ∷ word_digits word) reads.plain) refl word_named ∙ number_word _ word address small reads

by_instr : WordIsReadBack → FunctionsOfTheTable → RangesByField → (word address : ℕ) (d : Option Instr) → word < 2 ^ 32 → address < 2 ^ 32 → decoded word ≡ d → word_said (line_or_word word address d) address ≡ Ok word
by_instr back table ranges word address None small aligned is = word_line_back back word address small
by_instr back table ranges word address (Some i) small aligned is =
    let f = (ranges (form_of i.op) (operands i)).0 i.in_range in
    let named = mnemonic_back i.op i.aq i.rl f.aq f.rl in
    let same : encoded i ≡ word = (table.2 word i).1 (small, (table.1 word i).0 is) in
    elim (is_written (form_of i.op) i) as (λ b. is_written (form_of i.op) i ≡ b → word_said (if b then instr_line i address else word_line word) address ≡ Ok word) [
      | true ↦ λ written. by_form back i address (form_of i.op) aligned refl f named written ∙ ap Ok same
      | false ↦ λ _. word_line_back back word address small
    ] refl

pub every_word : WordIsReadBack → FunctionsOfTheTable → RangesByField → EveryWordIsReadBack
unfolding line
every_word back table ranges word address small inside = by_instr back table ranges word address (decoded word) small inside refl
