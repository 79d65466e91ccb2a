-- The mnemonic of each operation, with its ordering bits.
use Rattle.std.specs.Prelude.{ℕ, Bool, true, false, not, ◌&&◌, ◌||◌, if◌then◌else◌, Option, option_map, List, [], ◌++◌, codes}
use Rattle.std.specs.Option.{option_or}
use Rattle.std.specs.List.{find}
use Rattle.std.specs.Str.{bytes_eq}
use Rattle.rv_isa.specs.Form.{has_ordering}
use Rattle.rv_isa.specs.Table.{form_of, operations}
use Rattle.rv_isa.specs.declared.op.Op.{Op}
use Rattle.rv_isa.specs.declared.op.Op.TheVariants.{Lb, Lh, Lw, Lbu, Lhu, Jalr}
use Rattle.rv_asm.specs.declared.reading.mnemonic.Mnemonic.{Mnemonic}
pub use Rattle.rv_isa.specs.Table.{mnemonic_of}

-- what an atomic's mnemonic has added for its ordering bits, aq and rl
abbrev pub ordering_suffix : Bool → Bool → List ℕ
ordering_suffix false false = []
ordering_suffix true false = codes ".aq"
ordering_suffix false true = codes ".rl"
ordering_suffix true true = codes ".aqrl"

-- an operation's mnemonic with its ordering bits
abbrev pub spelling : Mnemonic → List ℕ
spelling m = mnemonic_of m.op ++ ordering_suffix m.aq m.rl

abbrev pub mnemonic : Op → Bool → Bool → Mnemonic
mnemonic op aq rl = record { op = op; aq = aq; rl = rl }

-- the atomics alone have ordering bits
abbrev pub may_have : Op → Bool → Bool → Bool
may_have op aq rl = if has_ordering (form_of op) then true else not (aq || rl)

-- the operation that the text spells with these ordering bits
abbrev pub spelled_with : Bool → Bool → List ℕ → Option Mnemonic
spelled_with aq rl text = option_map (λ op. mnemonic op aq rl) (find (λ op. may_have op aq rl && bytes_eq (mnemonic_of op ++ ordering_suffix aq rl) text) operations)

-- the operation and the ordering bits that a mnemonic names
abbrev pub mnemonic_named : List ℕ → Option Mnemonic
mnemonic_named text = option_or (spelled_with false false text)
    (option_or (spelled_with true false text) (option_or (spelled_with false true text) (spelled_with true true text)))

-- the loads and JALR, whose operand is an address
abbrev pub is_indexed : Op → Bool
is_indexed Lb = true
is_indexed Lh = true
is_indexed Lw = true
is_indexed Lbu = true
is_indexed Lhu = true
is_indexed Jalr = true
is_indexed _ = false
