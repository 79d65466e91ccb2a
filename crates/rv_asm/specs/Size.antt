-- How many bytes a statement takes, and the section that it leaves the source in.
use Rattle.std.specs.Prelude.{ℕ, ◌*◌, length}
use Rattle.rv_asm.specs.declared.statement.Section.{Section}
use Rattle.rv_asm.specs.declared.statement.Statement.{Statement}
use Rattle.rv_asm.specs.declared.statement.Statement.TheVariants as statement

-- how many bytes a statement takes
unfoldable pub size_of : Statement → ℕ
size_of (statement.Instr instr) = 4
size_of (statement.Pair first second) = 8
size_of (statement.Jump op rd rs1 rs2 target) = 4
size_of (statement.La rd label) = 8
size_of (statement.Section section) = 0
size_of (statement.Words values) = 4 * length values
size_of (statement.Bytes values) = length values
size_of (statement.Zero count) = count
size_of statement.Global = 0

-- the section that the source is in after a statement
unfoldable pub section_after : Statement → Section → Section
section_after (statement.Section next) section = next
section_after _ section = section
