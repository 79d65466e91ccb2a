-- What holds of the table: no word matches two rows, and a word and its instruction are one.
use Rattle.std.specs.Prelude.{◌≡◌, ℕ, ◌^◌, ◌<◌, ◌↔◌, Some, Contains, IsTrue}
use Rattle.rv_isa.specs.Decoded.{op_at, decoded}
use Rattle.rv_isa.specs.Encoded.{encoded}
use Rattle.rv_isa.specs.Instr.{Row}
use Rattle.rv_isa.specs.Operands.{are_operands, InRange}
use Rattle.rv_isa.specs.Table.{Matches, operations}
use Rattle.rv_isa.specs.declared.form.Form.{Form}
use Rattle.rv_isa.specs.declared.instr.Instr.{Instr}
use Rattle.rv_isa.specs.declared.op.Op.{Op}
use Rattle.rv_isa.specs.declared.operands.Operands.{Operands}

-- each operation is in the table
abbrev pub EachOperationIsListed : Type 0
EachOperationIsListed = (op : Op) → Contains operations op

-- no word matches two rows
abbrev pub OneRowPerWord : Type 0
OneRowPerWord = (word : ℕ) (one other : Op) → Matches word one → Matches word other → one ≡ other

-- no word is two instructions
abbrev pub OneInstructionPerWord : Type 0
OneInstructionPerWord = (word : ℕ) (one other : Instr) → Row word one → Row word other → one ≡ other

-- no instruction has two words
abbrev pub OneWordPerInstruction : Type 0
OneWordPerInstruction = (one other : ℕ) (instr : Instr) → one < 2 ^ 32 → other < 2 ^ 32 → Row one instr → Row other instr → one ≡ other

-- `op_at` is the operation whose row matches, `decoded` the instruction whose row it is, and `encoded` the word of
-- 32 bits that has the instruction's row
abbrev pub FunctionsOfTheTable : Type 0
FunctionsOfTheTable =
    ((word : ℕ) (op : Op) → (op_at word ≡ Some op) ↔ Matches word op) × ((word : ℕ) (instr : Instr) → (decoded word ≡ Some instr) ↔ Row word instr)
    × ((word : ℕ) (instr : Instr) → (encoded instr ≡ word) ↔ ((word < 2 ^ 32) × Row word instr))

-- operands are in range where each of them is
abbrev pub RangesByField : Type 0
RangesByField = (form : Form) (o : Operands) → IsTrue (are_operands form o) ↔ InRange form o
