-- What the first word of a statement names: a mnemonic, a directive, or neither.
use Rattle.std.specs.Prelude.{ℕ, Bool, false, ◌==◌, ◌&&◌, if◌then◌else◌, Option, Some, None, option_map, Result, Ok, Err, List, [], ◌∷◌, codes}
use Rattle.std.specs.Option.{option_or}
use Rattle.std.specs.List.{find}
use Rattle.std.specs.Str.{bytes_eq}
use Rattle.rv_asm.specs.Mnemonics.{mnemonic_named}
use Rattle.rv_asm.specs.Text.{is_name}
use Rattle.rv_asm.specs.declared.reading.keyword.TheConstants.{PSEUDOS, DIRECTIVES}
use Rattle.rv_asm.specs.declared.reading.keyword.Keyword.{Keyword}
use Rattle.rv_asm.specs.declared.reading.keyword.Keyword.TheVariants as keyword
use Rattle.rv_asm.specs.declared.reading.keyword.Pseudo.{Pseudo}
use Rattle.rv_asm.specs.declared.reading.keyword.Pseudo.TheVariants.{Nop, Mv, J, Ret, Li, La}
use Rattle.rv_asm.specs.declared.reading.keyword.Directive.{Directive}
use Rattle.rv_asm.specs.declared.reading.keyword.Directive.TheVariants.{Text, Data, Word, Byte, Zero, Globl, Global}
use Rattle.rv_asm.specs.declared.statement.AsmKind.{AsmKind}
use Rattle.rv_asm.specs.declared.statement.AsmKind.TheVariants as kind

-- What the first word of a statement names.

abbrev pub pseudo_name : Pseudo → List ℕ
pseudo_name Nop = codes "nop"
pseudo_name Mv = codes "mv"
pseudo_name J = codes "j"
pseudo_name Ret = codes "ret"
pseudo_name Li = codes "li"
pseudo_name La = codes "la"

abbrev pub directive_name : Directive → List ℕ
directive_name Text = codes ".text"
directive_name Data = codes ".data"
directive_name Word = codes ".word"
directive_name Byte = codes ".byte"
directive_name Zero = codes ".zero"
directive_name Globl = codes ".globl"
directive_name Global = codes ".global"

abbrev pub pseudo_named : List ℕ → Option Pseudo
pseudo_named text = find (λ p. bytes_eq (pseudo_name p) text) PSEUDOS

abbrev pub directive_named : List ℕ → Option Directive
directive_named text = find (λ d. bytes_eq (directive_name d) text) DIRECTIVES

-- a directive's name begins with a dot
abbrev pub begins_with_dot : List ℕ → Bool
begins_with_dot [] = false
begins_with_dot (byte ∷ text) = byte == 46

-- a word that names nothing
abbrev pub unknown : List ℕ → AsmKind
unknown text = if begins_with_dot text && is_name text then kind.Directive else kind.Word

abbrev pub or_unknown : Option Keyword → List ℕ → Result Keyword AsmKind
or_unknown (Some found) text = Ok found
or_unknown None text = Err (unknown text)

abbrev pub keyword_named : List ℕ → Option Keyword
keyword_named text = option_or (option_map keyword.Instr (mnemonic_named text))
    (option_or (option_map keyword.Pseudo (pseudo_named text)) (option_map keyword.Directive (directive_named text)))

unfoldable pub keyword_of : List ℕ → Result Keyword AsmKind
keyword_of text = or_unknown (keyword_named text) text
