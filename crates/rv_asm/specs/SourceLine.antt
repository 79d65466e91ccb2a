-- What a line of source says: its label, and its statement or the first of the statement's faults by rank.
use Rattle.std.specs.Prelude.{ℕ, ℤ, pos, negsuc, ◌+ℤ◌, ◌*ℤ◌, Bool, true, false, not, ◌==◌, ⊤, if◌then◌else◌, Option, Some, None, Result, Ok, Err, List, [], ◌∷◌, is_some}
use Rattle.std.specs.List.{list_all}
use Rattle.std.specs.Char.{is_ascii}
use Rattle.rv_isa.specs.Operands.{is_within}
use Rattle.rv_isa.specs.Table.{form_of}
use Rattle.rv_isa.specs.declared.form.Form.{Form}
use Rattle.rv_isa.specs.declared.form.Form.TheVariants as form
use Rattle.rv_isa.specs.declared.operands.Operands.{Operands as Fields}
use Rattle.rv_isa.specs.declared.op.Op.{Op}
use Rattle.rv_isa.specs.declared.op.Op.TheVariants as op
use Rattle.rv_text.specs.Pieces.{pieces_of}
use Rattle.rv_asm.specs.Expressions.{bits_of, expression_of, expressions_left}
use Rattle.rv_asm.specs.Faults.{both}
use Rattle.rv_memory.specs.Chain.{◌>>=◌}
use Rattle.rv_asm.specs.Instruction.{fields, instruction, load_pair}
use Rattle.rv_asm.specs.Keyword.{keyword_of}
use Rattle.rv_asm.specs.Mnemonics.{is_indexed}
use Rattle.rv_asm.specs.Operand.{operand, operands_of}
use Rattle.rv_asm.specs.OrderSet.{order_set}
use Rattle.rv_asm.specs.Registers.{register_named}
use Rattle.rv_asm.specs.Text.{before, since, is_name}
use Rattle.rv_asm.specs.declared.reading.keyword.Directive.{Directive}
use Rattle.rv_asm.specs.declared.reading.keyword.Directive.TheVariants as directive
use Rattle.rv_asm.specs.declared.reading.keyword.Keyword.{Keyword}
use Rattle.rv_asm.specs.declared.reading.keyword.Keyword.TheVariants as keyword
use Rattle.rv_asm.specs.declared.reading.keyword.Pseudo.{Pseudo}
use Rattle.rv_asm.specs.declared.reading.keyword.Pseudo.TheVariants as pseudo
use Rattle.rv_asm.specs.declared.reading.mnemonic.Mnemonic.{Mnemonic}
use Rattle.rv_asm.specs.declared.reading.operand.Operand.{Operand}
use Rattle.rv_asm.specs.declared.reading.operand.Operand.TheVariants.{Name, Number, Memory, Base}
use Rattle.rv_asm.specs.declared.reading.operand.Operands.{Operands}
use Rattle.rv_asm.specs.declared.reading.operand.Operands.TheVariants.{Empty, One, Two, Three}
use Rattle.rv_asm.specs.declared.reading.text.Stop.TheVariants.{Comment, NameEnd, Blank, Filled}
use Rattle.rv_asm.specs.declared.reading.values.Values.{Values}
use Rattle.rv_asm.specs.declared.reading.values.Values.TheVariants as values
use Rattle.rv_asm.specs.declared.statement.AsmKind.{AsmKind}
use Rattle.rv_asm.specs.declared.statement.AsmKind.TheVariants as kind
use Rattle.rv_asm.specs.declared.statement.Expression.{Expression}
use Rattle.rv_asm.specs.declared.statement.Line.{Line}
use Rattle.rv_asm.specs.declared.statement.Section.{Section}
use Rattle.rv_asm.specs.declared.statement.Section.TheVariants as section
use Rattle.rv_asm.specs.declared.statement.Statement.{Statement}
use Rattle.rv_asm.specs.declared.statement.Statement.TheVariants as statement

-- What a line of source says: its label, and its statement or the first of the statement's faults by rank.

-- ---- operands by what must stand there

abbrev pub or_else : {A : Type 0} → Option A → AsmKind → Result A AsmKind
or_else (Some a) fault = Ok a
or_else None fault = Err fault

-- a register
abbrev pub register_in : Option Operand → Result ℕ AsmKind
register_in (Some (Name name)) = or_else (register_named name) kind.Register
register_in _ = Err kind.Word

-- a number
abbrev pub number_in : Option Operand → Result ℤ AsmKind
number_in (Some (Number n)) = or_else n kind.Range
number_in _ = Err kind.Word

-- `number(register)`, where no number is 0
abbrev pub address_in : Option Operand → Result (ℤ × ℕ) AsmKind
address_in (Some (Memory offset base)) = both (or_else offset kind.Range) (or_else (register_named base) kind.Register)
address_in (Some (Base base)) = both (Ok (pos 0)) (or_else (register_named base) kind.Register)
address_in _ = Err kind.Word

-- `(register)`
abbrev pub base_in : Option Operand → Result ℕ AsmKind
base_in (Some (Base base)) = or_else (register_named base) kind.Register
base_in _ = Err kind.Word

-- a label
abbrev pub label_in : Option Operand → Result (List ℕ) AsmKind
label_in (Some (Name name)) = Ok name
label_in _ = Err kind.Word

-- a label or a number
unfoldable pub expression_at : Option Operand → Result Expression AsmKind
expression_at (Some (Name name)) = or_else (expression_of (Name name)) kind.Word
expression_at (Some (Number n)) = or_else (expression_of (Number n)) kind.Range
expression_at _ = Err kind.Word

-- a number of these
unfoldable pub within : ℤ → ℤ → ℤ → Result ℤ AsmKind
within low high n = if is_within low high n then Ok n else Err kind.Range

-- what a FENCE orders: a number, or its letters
abbrev pub order_in : Option Operand → Result ℤ AsmKind
order_in (Some (Name name)) = or_else (order_set name) kind.Word
order_in (Some (Number n)) = or_else n kind.Range
order_in _ = Err kind.Word

-- ---- instructions by the format of their operands

abbrev pub one_instr : Op → Fields → Result Statement AsmKind
one_instr op o = instruction op o >>= λ i. Ok (statement.Instr i)

-- `add x1, x2, x3`
abbrev pub registers_instr : Op → Operands → Result Statement AsmKind
registers_instr op (Three rd rs1 rs2) = do
  r ← both (register_in rd) (both (register_in rs1) (register_in rs2))
  one_instr op (fields r.0 r.1.0 r.1.1 (pos 0))
registers_instr op _ = Err kind.Word

-- `addi x1, x2, -5`
abbrev pub immediate_instr : Op → Operands → Result Statement AsmKind
immediate_instr op (Three rd rs1 imm) = do
  r ← both (register_in rd) (both (register_in rs1) (number_in imm))
  one_instr op (fields r.0 r.1.0 0 r.1.1)
immediate_instr op _ = Err kind.Word

-- `lw x5, 0(x6)`
abbrev pub indexed_instr : Op → Operands → Result Statement AsmKind
indexed_instr op (Two rd address) = do
  r ← both (register_in rd) (address_in address)
  one_instr op (fields r.0 r.1.1 0 r.1.0)
indexed_instr op _ = Err kind.Word

-- `sw x10, 0(x6)`
abbrev pub store_instr : Op → Operands → Result Statement AsmKind
store_instr op (Two rs2 address) = do
  r ← both (register_in rs2) (address_in address)
  one_instr op (fields 0 r.1.1 r.0 r.1.0)
store_instr op _ = Err kind.Word

-- `beq x1, x2, target`
abbrev pub branch_instr : Op → Operands → Result Statement AsmKind
branch_instr op (Three rs1 rs2 target) = do
  r ← both (register_in rs1) (both (register_in rs2) (expression_at target))
  Ok (statement.Jump op 0 r.0 r.1.0 r.1.1)
branch_instr op _ = Err kind.Word

-- `jal x1, target`
abbrev pub jump_instr : Op → Operands → Result Statement AsmKind
jump_instr op (Two rd target) = do
  r ← both (register_in rd) (expression_at target)
  Ok (statement.Jump op r.0 0 0 r.1)
jump_instr op _ = Err kind.Word

-- `lui x6, 0x20`
abbrev pub upper_instr : Op → Operands → Result Statement AsmKind
upper_instr op (Two rd imm) = do
  r ← both (register_in rd) (number_in imm)
  one_instr op (fields r.0 0 0 r.1)
upper_instr op _ = Err kind.Word

abbrev pub ordered_instr : Op → ℤ → ℤ → Result Statement AsmKind
ordered_instr op pred succ = do
  before ← within (pos 0) (pos 15) pred
  after ← within (pos 0) (pos 15) succ
  one_instr op (fields 0 0 0 (before *ℤ pos 16 +ℤ after))

-- `fence`, which orders all, or `fence 1, 0`
abbrev pub fence_instr : Op → Operands → Result Statement AsmKind
fence_instr op Empty = one_instr op (fields 0 0 0 (pos 255))
fence_instr op (Two pred succ) = do
  r ← both (order_in pred) (order_in succ)
  ordered_instr op r.0 r.1
fence_instr op _ = Err kind.Word

-- `ecall`
abbrev pub plain_instr : Op → Operands → Result Statement AsmKind
plain_instr op Empty = one_instr op (fields 0 0 0 (pos 0))
plain_instr op _ = Err kind.Word

-- `lr.w x5, (x6)`
abbrev pub reserve_instr : Mnemonic → Operands → Result Statement AsmKind
reserve_instr m (Two rd base) = do
  r ← both (register_in rd) (base_in base)
  one_instr m.op (record (fields r.0 r.1 0 (pos 0)) { aq = m.aq; rl = m.rl })
reserve_instr m _ = Err kind.Word

-- `sc.w x7, x5, (x6)`
abbrev pub atomic_instr : Mnemonic → Operands → Result Statement AsmKind
atomic_instr m (Three rd rs2 base) = do
  r ← both (register_in rd) (both (register_in rs2) (base_in base))
  one_instr m.op (record (fields r.0 r.1.1 r.1.0 (pos 0)) { aq = m.aq; rl = m.rl })
atomic_instr m _ = Err kind.Word

abbrev pub instr_of : Form → Mnemonic → Operands → Result Statement AsmKind
instr_of form.R m o = registers_instr m.op o
instr_of form.I m o = if is_indexed m.op then indexed_instr m.op o else immediate_instr m.op o
instr_of form.Shift m o = immediate_instr m.op o
instr_of form.S m o = store_instr m.op o
instr_of form.B m o = branch_instr m.op o
instr_of form.J m o = jump_instr m.op o
instr_of form.U m o = upper_instr m.op o
instr_of form.Fence m o = fence_instr m.op o
instr_of form.Plain m o = plain_instr m.op o
instr_of form.Lr m o = reserve_instr m o
instr_of form.Amo m o = atomic_instr m o

-- ---- pseudo-instructions

-- one instruction can load the number
abbrev pub is_short : ℤ → Bool
is_short n = is_within (negsuc 2047) (pos 2047) n

abbrev pub loaded : ℕ → ℤ → Result Statement AsmKind
loaded rd n =
    if is_short n then one_instr op.Addi (fields rd 0 0 n)
    else (load_pair rd (bits_of n) >>= λ pair. Ok (statement.Pair pair.0 pair.1))

-- `nop` is `addi x0, x0, 0`
abbrev pub nop_of : Operands → Result Statement AsmKind
nop_of Empty = one_instr op.Addi (fields 0 0 0 (pos 0))
nop_of _ = Err kind.Word

-- `mv rd, rs` is `addi rd, rs, 0`
abbrev pub mv_of : Operands → Result Statement AsmKind
mv_of (Two rd rs) = do
  r ← both (register_in rd) (register_in rs)
  one_instr op.Addi (fields r.0 r.1 0 (pos 0))
mv_of _ = Err kind.Word

-- `j target` is `jal x0, target`
abbrev pub j_of : Operands → Result Statement AsmKind
j_of (One target) = expression_at target >>= λ t. Ok (statement.Jump op.Jal 0 0 0 t)
j_of _ = Err kind.Word

-- `ret` is `jalr x0, 0(x1)`
abbrev pub ret_of : Operands → Result Statement AsmKind
ret_of Empty = one_instr op.Jalr (fields 0 1 0 (pos 0))
ret_of _ = Err kind.Word

abbrev pub li_of : Operands → Result Statement AsmKind
li_of (Two rd n) = both (register_in rd) (number_in n) >>= λ r. loaded r.0 r.1
li_of _ = Err kind.Word

abbrev pub la_of : Operands → Result Statement AsmKind
la_of (Two rd label) = both (register_in rd) (label_in label) >>= λ r. Ok (statement.La r.0 r.1)
la_of _ = Err kind.Word

abbrev pub pseudo_of : Pseudo → Operands → Result Statement AsmKind
pseudo_of pseudo.Nop o = nop_of o
pseudo_of pseudo.Mv o = mv_of o
pseudo_of pseudo.J o = j_of o
pseudo_of pseudo.Ret o = ret_of o
pseudo_of pseudo.Li o = li_of o
pseudo_of pseudo.La o = la_of o

-- ---- directives

-- what stands only in `.data`
abbrev pub in_data : Section → Result ⊤ AsmKind
in_data section.Data = Ok tt
in_data section.Text = Err kind.Directive

-- an operand of `.word` is a label or a number, and one of `.byte` a number
abbrev pub has_shape : Values → Option Operand → Bool
has_shape values.Words (Some (Name name)) = true
has_shape _ (Some (Number n)) = true
has_shape _ _ = false

-- a number of `.byte` is -128 to 255
abbrev pub is_byte : Option ℤ → Bool
is_byte None = false
is_byte (Some n) = is_within (negsuc 127) (pos 255) n

abbrev pub is_in_range : Values → Option Operand → Bool
is_in_range values.Words (Some o) = is_some (expression_of o)
is_in_range values.Bytes (Some (Number n)) = is_byte n
is_in_range _ _ = false

-- the values of a list, of one or more
abbrev pub values_of : Values → List ℕ → Result (List Expression) AsmKind
values_of v text =
    if not (list_all (λ piece. has_shape v (operand piece)) (pieces_of 44 text)) then Err kind.Word
    else (if not (list_all (λ piece. is_in_range v (operand piece)) (pieces_of 44 text)) then Err kind.Range
    else Ok (expressions_left (pieces_of 44 text)))

abbrev pub words_of : List ℕ → Result Statement AsmKind
words_of text = values_of values.Words text >>= λ v. Ok (statement.Words v)

abbrev pub bytes_of : Section → List ℕ → Result Statement AsmKind
bytes_of s text = both (in_data s) (values_of values.Bytes text) >>= λ r. Ok (statement.Bytes r.1)

-- `.zero n` takes 0 to 1,048,576
abbrev pub zero_of : Section → Operands → Result Statement AsmKind
zero_of s (One n) = do
  r ← both (in_data s) (number_in n)
  count ← within (pos 0) (pos 1048576) r.1
  Ok (statement.Zero (bits_of count))
zero_of s _ = Err kind.Word

abbrev pub section_of : Section → Operands → Result Statement AsmKind
section_of s Empty = Ok (statement.Section s)
section_of s _ = Err kind.Word

abbrev pub global_of : Operands → Result Statement AsmKind
global_of (One label) = label_in label >>= λ _. Ok statement.Global
global_of _ = Err kind.Word

abbrev pub directive_of : Directive → Section → List ℕ → Result Statement AsmKind
directive_of directive.Text s text = section_of section.Text (operands_of text)
directive_of directive.Data s text = section_of section.Data (operands_of text)
directive_of directive.Word s text = words_of text
directive_of directive.Byte s text = bytes_of s text
directive_of directive.Zero s text = zero_of s (operands_of text)
directive_of directive.Globl s text = global_of (operands_of text)
directive_of directive.Global s text = global_of (operands_of text)

-- ---- lines

-- the statement of a keyword with the text of its operands, in a section
unfoldable pub statement_of : Keyword → Section → List ℕ → Result Statement AsmKind
statement_of (keyword.Instr m) s text = instr_of (form_of m.op) m (operands_of text)
statement_of (keyword.Pseudo p) s text = pseudo_of p (operands_of text)
statement_of (keyword.Directive d) s text = directive_of d s text

-- the word that a statement begins with, and the text of its operands
abbrev pub first_word : List ℕ → List ℕ
first_word text = before Blank text

abbrev pub operand_text : List ℕ → List ℕ
operand_text text = since Filled (since Blank text)

-- the statement in a text without comment, label and blanks before it
abbrev pub statement_in : Section → List ℕ → Result (Option Statement) AsmKind
statement_in s [] = Ok None
statement_in s text =
    if list_all is_ascii text then (keyword_of (first_word text) >>= λ k. statement_of k s (operand_text text) >>= λ said. Ok (Some said))
    else Err kind.Word

-- the text without a comment and the blanks that it begins with
abbrev pub uncommented : List ℕ → List ℕ
uncommented text = since Filled (before Comment text)

-- what follows the colon of a label
abbrev pub after_colon : List ℕ → Option (List ℕ)
after_colon [] = None
after_colon (byte ∷ text) = if byte == 58 then Some (since Filled text) else None

abbrev pub unlabelled : Section → List ℕ → Line
unlabelled s text = record { label = None; statement = statement_in s text }

abbrev pub labelled : Section → List ℕ → Option (List ℕ) → List ℕ → Line
labelled s name None text = unlabelled s text
labelled s name (Some rest) text = if is_name name then record { label = Some name; statement = statement_in s rest } else unlabelled s text

abbrev pub line_in : Section → List ℕ → Line
line_in s text = labelled s (before NameEnd text) (after_colon (since NameEnd text)) text

-- what a line says in a section
abbrev pub line_said : Section → List ℕ → Line
line_said s text = line_in s (uncommented text)
