-- The last writers of bytes, found step by step.
use Rattle.std.specs.Prelude.{ℕ, None, if◌then◌else◌, Option, List, map}
use Rattle.rv_collide.specs.declared.entry.Entry.{Entry}
use Rattle.rv_explain.specs.Meeting.{wrote}
use Rattle.rv_explain.specs.StuckReads.{bytes_read, ranges_in, reading, writer_before}
use Rattle.rv_explain.specs.Told.{bytes_in}
use Rattle.rv_explain.specs.declared.stuck.ReadBytes.{ReadBytes}
use Rattle.rv_explain.specs.declared.stuck.Writer.{Writer}
use Rattle.rv_hart.specs.State.{State}
use Rattle.rv_hart.specs.declared.access.Access.{Access}
use Rattle.rv_memory.specs.Memory.{Memory}
use Rattle.rv_stuck.specs.Acts.{Conduct}
use Rattle.rv_waits.specs.declared.touched.Range.{Range}

-- bytes whose writers are not looked for yet
abbrev pub unwritten : Memory → Range → ReadBytes
unwritten memory range = record { first = range.first; size = range.size; value = bytes_in memory (reading range.first range.size); writer = None }

abbrev pub reads_unwritten : Memory → Conduct → List ReadBytes
reads_unwritten memory conduct = map (unwritten memory) (ranges_in conduct)

-- the bytes with their last writer before a place
abbrev pub with_writer : State → List Entry → ℕ → ReadBytes → ReadBytes
with_writer start entries place read = record read { writer = writer_before start entries place (bytes_read read) }

-- the bytes after a step of this access, which makes it their writer where it writes one of them
abbrev pub noted : Option Writer → Option Access → ReadBytes → ReadBytes
noted writer access read = if wrote (bytes_read read) access then record read { writer = writer } else read
