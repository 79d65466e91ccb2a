-- The mnemonics of a listing, read back: a line an operation.
use Rattle.std.proofs.Common.{◌≡◌, ℕ, Bool, true, false, cond, List, [], ◌∷◌, ◌++◌, map, Option, Some, None, Result, Ok, refl}
use Rattle.std.specs.Prelude.{◌&&◌}
use Rattle.std.specs.List.{find, list_all}
use Rattle.std.specs.Str.{bytes_eq}
use Rattle.rv_isa.specs.Form.{has_ordering}
use Rattle.rv_isa.specs.Operands.{is_ordering}
use Rattle.rv_isa.specs.Table.{form_of, operations}
use Rattle.rv_isa.specs.declared.op.Op.{Op}
use Rattle.rv_isa.specs.declared.op.Op.TheVariants.{Lui}
use Rattle.rv_asm.specs.Keyword.{keyword_of}
use Rattle.rv_asm.specs.Mnemonics.{may_have, mnemonic, mnemonic_of, ordering_suffix}
use Rattle.rv_asm.specs.Text.{is_name_byte}
use Rattle.rv_asm.specs.declared.reading.keyword.Keyword.{Keyword}
use Rattle.rv_asm.specs.declared.reading.keyword.Keyword.TheVariants.{Instr}
use Rattle.rv_asm.specs.declared.statement.AsmKind.{AsmKind}
use Rattle.rv_asm.proofs.PlainLemmas.{all_append}

abbrev pub spelled : Op → Bool → Bool → List ℕ
spelled op aq rl = mnemonic_of op ++ ordering_suffix aq rl

-- the operation that the text spells with these ordering bits
abbrev op_in : List Op → Bool → Bool → List ℕ → Option Op
op_in ops aq rl text = find (λ op. may_have op aq rl && bytes_eq (spelled op aq rl) text) ops

-- each is found by its own mnemonic, and by no earlier one's
found : (op : Op) → op_in operations false false (spelled op false false) ≡ Some op
found Lui = refl
found _ = refl

-- ---- a rule of the table, computed once, holds at each operation

agree_in : {B : Type 0} (f g : Op → B) (p : Op → Bool) (x : Op) (ops : List Op) (op : Op) (here : Bool) → map f (x ∷ ops) ≡ map g (x ∷ ops) → cond here (Some x) (find p ops) ≡ Some op
    → (map f ops ≡ map g ops → find p ops ≡ Some op → f op ≡ g op) → f op ≡ g op
agree_in f g p x ops op true same is later = cc
agree_in f g p x ops op false same is later = let rest : map f ops ≡ map g ops = cc in later rest is

agree_at : {B : Type 0} (f g : Op → B) (p : Op → Bool) (ops : List Op) (op : Op) → map f ops ≡ map g ops → find p ops ≡ Some op → f op ≡ g op
agree_at f g p [] op same is = cc
agree_at f g p (x ∷ ops) op same is = agree_in f g p x ops op (p x) same is (agree_at f g p ops op)

agree : {B : Type 0} (f g : Op → B) → map f operations ≡ map g operations → (op : Op) → f op ≡ g op
agree f g same op = agree_at f g (λ o. may_have o false false && bytes_eq (spelled o false false) (spelled op false false)) operations op same (found op)

-- ---- the mnemonics with ordering bits

-- what the spelling of an operation that may have ordering bits is read as
abbrev read_back : Bool → Op → Bool → Bool → Option (Result Keyword AsmKind)
read_back true op aq rl = Some (keyword_of (spelled op aq rl))
read_back false op aq rl = None

abbrev meant : Bool → Op → Bool → Bool → Option (Result Keyword AsmKind)
meant true op aq rl = Some (Ok (Instr (mnemonic op aq rl)))
meant false op aq rl = None

abbrev reads : Bool → Bool → Op → Option (Result Keyword AsmKind)
reads aq rl op = read_back (has_ordering (form_of op)) op aq rl

abbrev means : Bool → Bool → Op → Option (Result Keyword AsmKind)
means aq rl op = meant (has_ordering (form_of op)) op aq rl

acquires : map (reads true false) operations ≡ map (means true false) operations
unfolding keyword_of
acquires = refl

releases : map (reads false true) operations ≡ map (means false true) operations
unfolding keyword_of
releases = refl

orders : map (reads true true) operations ≡ map (means true true) operations
unfolding keyword_of
orders = refl

has_order : (has : Bool) → is_ordering has true ≡ true → has ≡ true
has_order true is = refl
has_order false is = cc

ordered : (op : Op) (aq rl : Bool) (has : Bool) → has ≡ true → read_back has op aq rl ≡ meant has op aq rl → keyword_of (spelled op aq rl) ≡ Ok (Instr (mnemonic op aq rl))
ordered op aq rl true is same = cc
ordered op aq rl false is same = cc

plain_named : (op : Op) → keyword_of (spelled op false false) ≡ Ok (Instr (mnemonic op false false))
unfolding keyword_of
plain_named op = rw (found op) refl

pub mnemonic_back : (op : Op) (aq rl : Bool) → is_ordering (has_ordering (form_of op)) aq ≡ true → is_ordering (has_ordering (form_of op)) rl ≡ true → keyword_of (spelled op aq rl) ≡ Ok (Instr (mnemonic op aq rl))
mnemonic_back op false false has_aq has_rl = plain_named op
mnemonic_back op true false has_aq has_rl = ordered op true false _ (has_order _ has_aq) (agree (reads true false) (means true false) acquires op)
mnemonic_back op false true has_aq has_rl = ordered op false true _ (has_order _ has_rl) (agree (reads false true) (means false true) releases op)
mnemonic_back op true true has_aq has_rl = ordered op true true _ (has_order _ has_aq) (agree (reads true true) (means true true) orders op)

-- ---- the bytes of mnemonics

suffix_bytes : (aq rl : Bool) → list_all is_name_byte (ordering_suffix aq rl) ≡ true
suffix_bytes false false = refl
suffix_bytes true false = refl
suffix_bytes false true = refl
suffix_bytes true true = refl

all_bytes : map (λ op. list_all is_name_byte (mnemonic_of op)) operations ≡ map (λ op. true) operations
all_bytes = refl

mnemonic_bytes : (op : Op) → list_all is_name_byte (mnemonic_of op) ≡ true
mnemonic_bytes op = agree (λ o. list_all is_name_byte (mnemonic_of o)) (λ o. true) all_bytes op

pub spelled_bytes : (op : Op) (aq rl : Bool) → list_all is_name_byte (spelled op aq rl) ≡ true
spelled_bytes op aq rl = all_append is_name_byte (mnemonic_of op) (ordering_suffix aq rl) (mnemonic_bytes op) (suffix_bytes aq rl)
