-- The one word that a line gives by itself, at an address, or why it gives none.
use Rattle.std.specs.Prelude.{ℕ, ⊤, if◌then◌else◌, Option, Some, None, Result, Ok, Err, List, ◌∷◌}
use Rattle.std.specs.List.{list_all}
use Rattle.std.specs.Char.{is_ascii}
use Rattle.rv_isa.specs.declared.op.Op.{Op}
use Rattle.rv_text.specs.Lines.{has_line_feed}
use Rattle.rv_asm.specs.Faults.{both}
use Rattle.rv_memory.specs.Chain.{◌>>=◌}
use Rattle.rv_isa.specs.Encoded.{encoded}
use Rattle.rv_asm.specs.Instruction.{distance, fields, instruction}
use Rattle.rv_asm.specs.Keyword.{keyword_of}
use Rattle.rv_asm.specs.Operand.{operands_of}
use Rattle.rv_asm.specs.SourceLine.{after_colon, first_word, is_short, operand_text, statement_of, uncommented}
use Rattle.rv_asm.specs.Text.{since}
use Rattle.rv_asm.specs.declared.reading.keyword.Directive.{Directive}
use Rattle.rv_asm.specs.declared.reading.keyword.Directive.TheVariants as directive
use Rattle.rv_asm.specs.declared.reading.keyword.Keyword.{Keyword}
use Rattle.rv_asm.specs.declared.reading.keyword.Keyword.TheVariants as keyword
use Rattle.rv_asm.specs.declared.reading.keyword.Pseudo.{Pseudo}
use Rattle.rv_asm.specs.declared.reading.keyword.Pseudo.TheVariants as pseudo
use Rattle.rv_asm.specs.declared.reading.operand.Operand.{Operand}
use Rattle.rv_asm.specs.declared.reading.operand.Operand.TheVariants.{Number}
use Rattle.rv_asm.specs.declared.reading.operand.Operands.{Operands}
use Rattle.rv_asm.specs.declared.reading.operand.Operands.TheVariants.{One, Two}
use Rattle.rv_asm.specs.declared.reading.text.Stop.TheVariants.{NameEnd}
use Rattle.rv_asm.specs.declared.statement.AsmKind.{AsmKind}
use Rattle.rv_asm.specs.declared.statement.AsmKind.TheVariants as kind
use Rattle.rv_asm.specs.declared.statement.Expression.{Expression}
use Rattle.rv_asm.specs.declared.statement.Expression.TheVariants as expression
use Rattle.rv_asm.specs.declared.statement.Section.TheVariants as section
use Rattle.rv_asm.specs.declared.statement.Statement.{Statement}
use Rattle.rv_asm.specs.declared.statement.Statement.TheVariants as statement

-- The word that one line gives by itself, at an address.

-- `li` of a number that takes two words gives no one word
abbrev pub short_alone : Option Operand → Result ⊤ AsmKind
short_alone (Some (Number (Some n))) = if is_short n then Ok tt else Err kind.Word
short_alone _ = Ok tt

abbrev pub li_alone : Operands → Result ⊤ AsmKind
li_alone (Two rd n) = short_alone n
li_alone _ = Ok tt

abbrev pub pseudo_alone : Pseudo → Operands → Result ⊤ AsmKind
pseudo_alone pseudo.La o = Err kind.Word
pseudo_alone pseudo.Li o = li_alone o
pseudo_alone _ o = Ok tt

-- of the directives `.word` with one number gives one
abbrev pub number_alone : Operands → Result ⊤ AsmKind
number_alone (One (Some (Number n))) = Ok tt
number_alone _ = Err kind.Directive

abbrev pub directive_alone : Directive → Operands → Result ⊤ AsmKind
directive_alone directive.Word o = number_alone o
directive_alone _ o = Err kind.Directive

-- whether a statement stands for one word by itself
unfoldable pub alone : Keyword → List ℕ → Result ⊤ AsmKind
alone (keyword.Instr m) text = Ok tt
alone (keyword.Pseudo p) text = pseudo_alone p (operands_of text)
alone (keyword.Directive d) text = directive_alone d (operands_of text)

-- the word of a branch or jump at an address
abbrev pub jump_word : Op → ℕ → ℕ → ℕ → Expression → ℕ → Result ℕ AsmKind
jump_word op rd rs1 rs2 (expression.Label name) address = Err kind.LabelUnknown
jump_word op rd rs1 rs2 (expression.Number target) address =
    instruction op (fields rd rs1 rs2 (distance address target)) >>= λ i. Ok (encoded i)

abbrev pub first_number : List Expression → Result ℕ AsmKind
first_number (expression.Number n ∷ rest) = Ok n
first_number _ = Err kind.Directive

-- the word of a statement that stands for one
abbrev pub one_word : Statement → ℕ → Result ℕ AsmKind
one_word (statement.Instr i) address = Ok (encoded i)
one_word (statement.Jump op rd rs1 rs2 target) address = jump_word op rd rs1 rs2 target address
one_word (statement.Words values) address = first_number values
one_word _ address = Err kind.Word

-- the word of a keyword with the text of its operands
unfoldable pub keyword_word : Keyword → List ℕ → ℕ → Result ℕ AsmKind
keyword_word k text address = both (alone k text) (statement_of k section.Data text) >>= λ read. one_word read.1 address

abbrev pub text_word : List ℕ → ℕ → Result ℕ AsmKind
text_word text address =
    if list_all is_ascii text then (keyword_of (first_word text) >>= λ k. keyword_word k (operand_text text) address)
    else Err kind.Word

abbrev pub unlabelled_word : Option (List ℕ) → List ℕ → ℕ → Result ℕ AsmKind
unlabelled_word (Some rest) text address = Err kind.Word
unlabelled_word None text address = text_word text address

abbrev pub word_in : List ℕ → ℕ → Result ℕ AsmKind
word_in text address = unlabelled_word (after_colon (since NameEnd text)) text address

-- the word that a line says at an address, without LF, label or a second word
unfoldable pub word_said : List ℕ → ℕ → Result ℕ AsmKind
word_said text address = if has_line_feed text then Err kind.Word else word_in (uncommented text) address
