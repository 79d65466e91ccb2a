-- A statement that may stand in `.text` takes whole words.
use Rattle.std.proofs.Common.{◌≡◌, ℕ, ℤ, pos, ◌*◌, ◌%◌, Bool, true, false, List, [], ◌∷◌, length, Option, Some, None, Result, Ok, Err, refl, arith}
use Rattle.std.specs.List.{list_all}
use Rattle.std.specs.Char.{is_ascii}
use Rattle.std.specs.Prelude.{if◌then◌else◌, ◌+ℤ◌, ◌*ℤ◌}
use Rattle.rv_isa.specs.Table.{form_of}
use Rattle.rv_isa.specs.declared.form.Form.{Form}
use Rattle.rv_isa.specs.declared.form.Form.TheVariants as form
use Rattle.rv_isa.specs.declared.op.Op.{Op}
use Rattle.rv_isa.specs.declared.operands.Operands.{Operands as Fields}
use Rattle.rv_asm.specs.Faults.{both}
use Rattle.rv_memory.specs.Chain.{◌>>=◌}
use Rattle.rv_asm.specs.Instruction.{fields, instruction, load_pair}
use Rattle.rv_asm.specs.Expressions.{bits_of}
use Rattle.rv_asm.specs.declared.statement.Expression.{Expression}
use Rattle.rv_asm.specs.declared.statement.AsmKind.TheVariants.{Word as word}
use Rattle.rv_asm.specs.declared.reading.text.Stop.TheVariants.{NameEnd}
use Rattle.rv_isa.specs.declared.op.Op.TheVariants as op
use Rattle.rv_asm.specs.Keyword.{keyword_of}
use Rattle.rv_asm.specs.Mnemonics.{is_indexed}
use Rattle.rv_asm.specs.Operand.{operands_of}
use Rattle.rv_asm.specs.SourceLine
use Rattle.rv_asm.specs.Size.{size_of}
use Rattle.rv_asm.specs.Text.{before, since, is_name}
use Rattle.rv_asm.specs.declared.reading.keyword.Directive.{Directive}
use Rattle.rv_asm.specs.declared.reading.keyword.Directive.TheVariants as directive
use Rattle.rv_asm.specs.declared.reading.keyword.Keyword.{Keyword}
use Rattle.rv_asm.specs.declared.reading.keyword.Keyword.TheVariants as keyword
use Rattle.rv_asm.specs.declared.reading.keyword.Pseudo.{Pseudo}
use Rattle.rv_asm.specs.declared.reading.keyword.Pseudo.TheVariants as pseudo
use Rattle.rv_asm.specs.declared.reading.mnemonic.Mnemonic.{Mnemonic}
use Rattle.rv_asm.specs.declared.reading.operand.Operands.{Operands}
use Rattle.rv_asm.specs.declared.reading.operand.Operands.TheVariants.{Empty, One, Two, Three}
use Rattle.rv_asm.specs.declared.reading.values.Values.TheVariants as values
use Rattle.rv_asm.specs.declared.statement.AsmKind.{AsmKind}
use Rattle.rv_asm.specs.declared.statement.Section.{Section}
use Rattle.rv_asm.specs.declared.statement.Section.TheVariants.{Text, Data}
use Rattle.rv_asm.specs.declared.statement.Statement.{Statement}
use Rattle.rv_asm.specs.declared.statement.Statement.TheVariants as statement

-- the statement, if it is one, takes whole words
abbrev pub Whole : Result Statement AsmKind → Type 0
Whole (Ok s) = size_of s % 4 ≡ 0
Whole (Err kind) = Unit {0}

after : {A : Type 0} (r : Result A AsmKind) (f : A → Result Statement AsmKind) → ((a : A) → Whole (f a)) → Whole (r >>= f)
after (Ok a) f each = each a
after (Err kind) f each = tt

instr : (op : Op) (o : Fields) → Whole (SourceLine.one_instr op o)
unfolding size_of
instr op o = after (instruction op o) (λ i. Ok (statement.Instr i)) (λ i. refl)

four_times : (n : ℕ) → 4 * n % 4 ≡ 0
four_times n = omega arith

-- ---- instructions

registers : (op : Op) (o : Operands) → Whole (SourceLine.registers_instr op o)
registers op (Three rd rs1 rs2) =
    after (both (SourceLine.register_in rd) (both (SourceLine.register_in rs1) (SourceLine.register_in rs2))) (λ r. SourceLine.one_instr op (fields r.0 r.1.0 r.1.1 (pos 0))) (λ r. instr op (fields r.0 r.1.0 r.1.1 (pos 0)))
registers op _ = tt

immediate : (op : Op) (o : Operands) → Whole (SourceLine.immediate_instr op o)
immediate op (Three rd rs1 imm) =
    after (both (SourceLine.register_in rd) (both (SourceLine.register_in rs1) (SourceLine.number_in imm))) (λ r. SourceLine.one_instr op (fields r.0 r.1.0 0 r.1.1)) (λ r. instr op (fields r.0 r.1.0 0 r.1.1))
immediate op _ = tt

indexed : (op : Op) (o : Operands) → Whole (SourceLine.indexed_instr op o)
indexed op (Two rd address) =
    after (both (SourceLine.register_in rd) (SourceLine.address_in address)) (λ r. SourceLine.one_instr op (fields r.0 r.1.1 0 r.1.0)) (λ r. instr op (fields r.0 r.1.1 0 r.1.0))
indexed op _ = tt

store : (op : Op) (o : Operands) → Whole (SourceLine.store_instr op o)
store op (Two rs2 address) =
    after (both (SourceLine.register_in rs2) (SourceLine.address_in address)) (λ r. SourceLine.one_instr op (fields 0 r.1.1 r.0 r.1.0)) (λ r. instr op (fields 0 r.1.1 r.0 r.1.0))
store op _ = tt

branch : (op : Op) (o : Operands) → Whole (SourceLine.branch_instr op o)
unfolding size_of
branch op (Three rs1 rs2 target) =
    after (both (SourceLine.register_in rs1) (both (SourceLine.register_in rs2) (SourceLine.expression_at target))) (λ r. Ok (statement.Jump op 0 r.0 r.1.0 r.1.1)) (λ r. refl)
branch op _ = tt

jump : (op : Op) (o : Operands) → Whole (SourceLine.jump_instr op o)
unfolding size_of
jump op (Two rd target) = after (both (SourceLine.register_in rd) (SourceLine.expression_at target)) (λ r. Ok (statement.Jump op r.0 0 0 r.1)) (λ r. refl)
jump op _ = tt

upper : (op : Op) (o : Operands) → Whole (SourceLine.upper_instr op o)
upper op (Two rd imm) = after (both (SourceLine.register_in rd) (SourceLine.number_in imm)) (λ r. SourceLine.one_instr op (fields r.0 0 0 r.1)) (λ r. instr op (fields r.0 0 0 r.1))
upper op _ = tt

ordered : (op : Op) (pred succ : ℤ) → Whole (SourceLine.ordered_instr op pred succ)
ordered op pred succ =
    after (SourceLine.within (pos 0) (pos 15) pred) (λ b. SourceLine.within (pos 0) (pos 15) succ >>= λ a. SourceLine.one_instr op (fields 0 0 0 (b *ℤ pos 16 +ℤ a)))
    (λ b. after (SourceLine.within (pos 0) (pos 15) succ) (λ a. SourceLine.one_instr op (fields 0 0 0 (b *ℤ pos 16 +ℤ a))) (λ a. instr op (fields 0 0 0 (b *ℤ pos 16 +ℤ a))))

fence : (op : Op) (o : Operands) → Whole (SourceLine.fence_instr op o)
fence op Empty = instr op (fields 0 0 0 (pos 255))
fence op (Two pred succ) = after (both (SourceLine.order_in pred) (SourceLine.order_in succ)) (λ r. SourceLine.ordered_instr op r.0 r.1) (λ r. ordered op r.0 r.1)
fence op _ = tt

plain : (op : Op) (o : Operands) → Whole (SourceLine.plain_instr op o)
plain op Empty = instr op (fields 0 0 0 (pos 0))
plain op _ = tt

reserve : (m : Mnemonic) (o : Operands) → Whole (SourceLine.reserve_instr m o)
reserve m (Two rd base) =
    after (both (SourceLine.register_in rd) (SourceLine.base_in base)) (λ r. SourceLine.one_instr m.op (record (fields r.0 r.1 0 (pos 0)) { aq = m.aq; rl = m.rl })) (λ r. instr m.op (record (fields r.0 r.1 0 (pos 0)) { aq = m.aq; rl = m.rl }))
reserve m _ = tt

atomic : (m : Mnemonic) (o : Operands) → Whole (SourceLine.atomic_instr m o)
atomic m (Three rd rs2 base) =
    after (both (SourceLine.register_in rd) (both (SourceLine.register_in rs2) (SourceLine.base_in base))) (λ r. SourceLine.one_instr m.op (record (fields r.0 r.1.1 r.1.0 (pos 0)) { aq = m.aq; rl = m.rl })) (λ r. instr m.op (record (fields r.0 r.1.1 r.1.0 (pos 0)) { aq = m.aq; rl = m.rl }))
atomic m _ = tt

by_form : (f : Form) (m : Mnemonic) (o : Operands) → Whole (SourceLine.instr_of f m o)
by_form form.R m o = registers m.op o
by_form form.I m o = at (is_indexed m.op) where
  at : (t : Bool) → Whole (if t then SourceLine.indexed_instr m.op o else SourceLine.immediate_instr m.op o)
  at true = indexed m.op o
  at false = immediate m.op o
by_form form.Shift m o = immediate m.op o
by_form form.S m o = store m.op o
by_form form.B m o = branch m.op o
by_form form.J m o = jump m.op o
by_form form.U m o = upper m.op o
by_form form.Fence m o = fence m.op o
by_form form.Plain m o = plain m.op o
by_form form.Lr m o = reserve m o
by_form form.Amo m o = atomic m o

-- ---- pseudo-instructions

li_loaded : (rd : ℕ) (n : ℤ) → Whole (SourceLine.loaded rd n)
unfolding size_of
li_loaded rd n = at (SourceLine.is_short n) where
  at : (t : Bool) → Whole (if t then SourceLine.one_instr op.Addi (fields rd 0 0 n) else (load_pair rd (bits_of n) >>= λ pair. Ok (statement.Pair pair.0 pair.1)))
  at true = instr op.Addi (fields rd 0 0 n)
  at false = after (load_pair rd (bits_of n)) (λ pair. Ok (statement.Pair pair.0 pair.1)) (λ pair. refl)

by_pseudo : (p : Pseudo) (o : Operands) → Whole (SourceLine.pseudo_of p o)
unfolding size_of
by_pseudo pseudo.Nop Empty = instr op.Addi (fields 0 0 0 (pos 0))
by_pseudo pseudo.Nop _ = tt
by_pseudo pseudo.Mv (Two rd rs) = after (both (SourceLine.register_in rd) (SourceLine.register_in rs)) (λ r. SourceLine.one_instr op.Addi (fields r.0 r.1 0 (pos 0))) (λ r. instr op.Addi (fields r.0 r.1 0 (pos 0)))
by_pseudo pseudo.Mv _ = tt
by_pseudo pseudo.J (One target) = after (SourceLine.expression_at target) (λ t. Ok (statement.Jump op.Jal 0 0 0 t)) (λ t. refl)
by_pseudo pseudo.J _ = tt
by_pseudo pseudo.Ret Empty = instr op.Jalr (fields 0 1 0 (pos 0))
by_pseudo pseudo.Ret _ = tt
by_pseudo pseudo.Li (Two rd n) = after (both (SourceLine.register_in rd) (SourceLine.number_in n)) (λ r. SourceLine.loaded r.0 r.1) (λ r. li_loaded r.0 r.1)
by_pseudo pseudo.Li _ = tt
by_pseudo pseudo.La (Two rd label) = after (both (SourceLine.register_in rd) (SourceLine.label_in label)) (λ r. Ok (statement.La r.0 r.1)) (λ r. refl)
by_pseudo pseudo.La _ = tt

-- ---- directives

bytes_refused : (text : List ℕ) → Whole (SourceLine.bytes_of Text text)
bytes_refused text = at (SourceLine.values_of values.Bytes text) where
  at : (q : Result (List Expression) AsmKind) → Whole (both (SourceLine.in_data Text) q >>= λ r. Ok (statement.Bytes r.1))
  at (Ok v) = tt
  at (Err kind) = tt

zero_refused : (o : Operands) → Whole (SourceLine.zero_of Text o)
zero_refused (One n) = at (SourceLine.number_in n) where
  at : (q : Result ℤ AsmKind) → Whole (both (SourceLine.in_data Text) q >>= λ r. SourceLine.within (pos 0) (pos 1048576) r.1 >>= λ count. Ok (statement.Zero (bits_of count)))
  at (Ok v) = tt
  at (Err kind) = tt
zero_refused _ = tt

section_whole : (s : Section) (o : Operands) → Whole (SourceLine.section_of s o)
unfolding size_of
section_whole s Empty = refl
section_whole s _ = tt

global_whole : (o : Operands) → Whole (SourceLine.global_of o)
unfolding size_of
global_whole (One label) = after (SourceLine.label_in label) (λ _. Ok statement.Global) (λ _. refl)
global_whole _ = tt

by_directive : (d : Directive) (text : List ℕ) → Whole (SourceLine.directive_of d Text text)
unfolding size_of
by_directive directive.Text text = section_whole Text (operands_of text)
by_directive directive.Data text = section_whole Data (operands_of text)
by_directive directive.Word text = after (SourceLine.values_of values.Words text) (λ v. Ok (statement.Words v)) (λ v. four_times (length v))
by_directive directive.Byte text = bytes_refused text
by_directive directive.Zero text = zero_refused (operands_of text)
by_directive directive.Globl text = global_whole (operands_of text)
by_directive directive.Global text = global_whole (operands_of text)

-- ---- lines

statement_whole : (k : Keyword) (text : List ℕ) → Whole (SourceLine.statement_of k Text text)
unfolding SourceLine.statement_of
statement_whole (keyword.Instr m) text = by_form (form_of m.op) m (operands_of text)
statement_whole (keyword.Pseudo p) text = by_pseudo p (operands_of text)
statement_whole (keyword.Directive d) text = by_directive d text

in_whole : (text : List ℕ) (s : Statement) → SourceLine.statement_in Text text ≡ Ok (Some s) → size_of s % 4 ≡ 0
in_whole [] s e = absurd (cc)
in_whole (b ∷ text) s e = at (list_all is_ascii (b ∷ text)) (keyword_of (SourceLine.first_word (b ∷ text))) e where
  last : (r : Result Statement AsmKind) → Whole r → (r >>= λ said. Ok (Some said)) ≡ Ok (Some s) → size_of s % 4 ≡ 0
  last (Err kind) whole e = absurd (cc)
  last (Ok x) whole e = let same : x ≡ s = cc in rw (← same) whole

  at : (ascii : Bool) (q : Result Keyword AsmKind) → (if ascii then (q >>= λ k. SourceLine.statement_of k Text (SourceLine.operand_text (b ∷ text)) >>= λ said. Ok (Some said)) else Err word) ≡ Ok (Some s) → size_of s % 4 ≡ 0
  at false q e = absurd (cc)
  at true (Err kind) e = absurd (cc)
  at true (Ok k) e = last (SourceLine.statement_of k Text (SourceLine.operand_text (b ∷ text))) (statement_whole k (SourceLine.operand_text (b ∷ text))) e

labelled_whole : (name : List ℕ) (o : Option (List ℕ)) (text : List ℕ) (s : Statement) → (SourceLine.labelled Text name o text).statement ≡ Ok (Some s) → size_of s % 4 ≡ 0
labelled_whole name None text s e = in_whole text s e
labelled_whole name (Some rest) text s e = at (is_name name) e where
  at : (t : Bool) → (if t then record { label = Some name; statement = SourceLine.statement_in Text rest } else SourceLine.unlabelled Text text).statement ≡ Ok (Some s) → size_of s % 4 ≡ 0
  at true e = in_whole rest s e
  at false e = in_whole text s e

pub said_whole : (text : List ℕ) (s : Statement) → (SourceLine.line_said Text text).statement ≡ Ok (Some s) → size_of s % 4 ≡ 0
said_whole text s e =
    labelled_whole (before NameEnd (SourceLine.uncommented text)) (SourceLine.after_colon (since NameEnd (SourceLine.uncommented text))) (SourceLine.uncommented text) s e
