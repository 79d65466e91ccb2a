-- What a hart that waits is shown to read: which bytes, what they are, and the step that wrote one of them last.
use Rattle.std.specs.Prelude.{ℕ, zero, suc, Bool, true, false, min, if◌then◌else◌, Option, Some, None, option_and_then, option_map, List, [], length, map, slice_get}
use Rattle.rv_collide.specs.Entries.{stepped_hart}
use Rattle.rv_collide.specs.StateAt.{state_at}
use Rattle.rv_collide.specs.declared.entry.Entry.{Entry}
use Rattle.rv_explain.specs.Meeting.{wrote}
use Rattle.rv_explain.specs.Told.{bytes_in}
use Rattle.rv_explain.specs.declared.stuck.ReadBytes.{ReadBytes}
use Rattle.rv_explain.specs.declared.stuck.Writer.{Writer}
use Rattle.rv_hart.specs.NextAccess.{next_access}
use Rattle.rv_hart.specs.State.{State}
use Rattle.rv_hart.specs.declared.access.Access.{Access}
use Rattle.rv_memory.specs.Memory.{Memory}
use Rattle.rv_stuck.specs.Acts.{Conduct, HasExited, HasStopped, IsParked, PollsAt, conduct_of}
use Rattle.rv_stuck.specs.declared.stuck.Doing.{Doing}
use Rattle.rv_waits.specs.declared.touched.Range.{Range}

-- some bytes, as an access that reads them
abbrev pub reading : ℕ → ℕ → Access
reading first size = record { pc = 0; first = first; size = size; read = true; write = false }

abbrev pub bytes_read : ReadBytes → Access
bytes_read read = reading read.first read.size

-- ---- who wrote them last

-- the access of the step that an entry is, if it is one and makes one
abbrev pub access_by : Entry → State → Option Access
access_by entry s = option_and_then (next_access s) (stepped_hart entry)

-- the same at a place of a schedule
abbrev pub access_at : State → List Entry → ℕ → Option Access
access_at start entries place =
    option_and_then (λ entry. option_and_then (access_by entry) (state_at start entries place)) (slice_get entries place)

-- the step at the place writes one of the bytes
abbrev pub writes_at : State → List Entry → Access → ℕ → Bool
writes_at start entries bytes place = wrote bytes (access_at start entries place)

-- the last number below this one that passes a test
abbrev pub last_below : (ℕ → Bool) → ℕ → Option ℕ
last_below test zero = None
last_below test (suc number) = if test number then Some number else last_below test number

-- the step of a hart at a place, where it makes an access: the place is told as far as a number of 32 bits says it
abbrev pub written_by : ℕ → ℕ → Option Access → Option Writer
written_by hart place access = option_map (λ (made : Access). record { hart = hart; entry = min place 0xffff_ffff; pc = made.pc }) access

-- the same of the step that an entry is
abbrev pub writer_by : ℕ → Entry → Option Access → Option Writer
writer_by place entry access = option_and_then (λ hart. written_by hart place access) (stepped_hart entry)

-- the same at a place of a schedule
abbrev pub writer_at : State → List Entry → ℕ → Option Writer
writer_at start entries place =
    option_and_then (λ entry. writer_by place entry (access_at start entries place)) (slice_get entries place)

-- the last step before a place that writes one of the bytes, if there is one
abbrev pub writer_before : State → List Entry → ℕ → Access → Option Writer
writer_before start entries place bytes = option_and_then (writer_at start entries) (last_below (writes_at start entries bytes) place)

-- ---- what is read

-- what bytes are at the end of a schedule, and their last writer
abbrev pub read_bytes : State → List Entry → Memory → Range → ReadBytes
read_bytes start entries memory range = record {
  first = range.first;
  size = range.size;
  value = bytes_in memory (reading range.first range.size);
  writer = writer_before start entries (length entries) (reading range.first range.size);
}

-- the ranges that a hart reads, by its conduct: those of its round's steps
abbrev pub ranges_in : Conduct → List Range
ranges_in HasExited = []
ranges_in HasStopped = []
ranges_in IsParked = []
ranges_in (PollsAt pc ranges) = ranges

-- what a hart reads at the end of a schedule
abbrev pub reads_of : State → List Entry → Memory → Doing → List ReadBytes
reads_of start entries memory doing = map (read_bytes start entries memory) (ranges_in (conduct_of doing))
