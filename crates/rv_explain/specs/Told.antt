-- What is told of an entry of a run: of the state before it and the state after it.
use Rattle.std.specs.Prelude.{◌≡◌, ℕ, ◌+◌, ◌==◌, if◌then◌else◌, Option, Some, None, option_and_then, option_map, unwrap_or, slice_get}
use Rattle.rv_collide.specs.Entries.{stepped_hart}
use Rattle.rv_collide.specs.declared.entry.Entry.{Entry}
use Rattle.rv_collide.specs.declared.entry.Entry.TheVariants.{Stepped, Paused, Resumed, Armed, Disarmed}
use Rattle.rv_debug.specs.Answers.{word_at}
use Rattle.rv_debug.specs.Placed.{Placed, SomeState, moved}
use Rattle.rv_explain.specs.declared.row.After.{After}
use Rattle.rv_explain.specs.declared.row.After.TheVariants as after
use Rattle.rv_explain.specs.declared.row.Row.{Row}
use Rattle.rv_hart.specs.NextAccess.{next_access}
use Rattle.rv_hart.specs.State.{State}
use Rattle.rv_hart.specs.declared.access.Access.{Access}
use Rattle.rv_hart.specs.declared.hart.Hart.{Hart}
use Rattle.rv_hart.specs.declared.hart.Status.{Status}
use Rattle.rv_hart.specs.declared.hart.Status.TheVariants.{Running, Exited, Stopped}
use Rattle.rv_memory.specs.Memory.{Memory, load}

-- the hart whose instruction is told: the one that steps, or is paused
abbrev pub acting : Entry → Option ℕ
acting (Stepped hart) = Some hart
acting (Paused hart slot) = Some hart
acting (Resumed hart) = None
acting (Armed address) = None
acting (Disarmed address) = None

abbrev pub hart_in : State → Entry → Option Hart
hart_in s entry = option_and_then (λ h. slice_get s.harts h) (acting entry)

-- the address of its instruction
abbrev pub pc_in : State → Entry → Option ℕ
pc_in s entry = option_map (λ (hart : Hart). hart.pc) (hart_in s entry)

-- the access that a hart which is there would make
abbrev pub access_by : State → ℕ → Option Hart → Option Access
access_by s h (Some hart) = next_access s h
access_by s h None = None

-- the access of the step
abbrev pub access_in : State → Entry → Option Access
access_in s entry = option_and_then (λ h. access_by s h (slice_get s.harts h)) (stepped_hart entry)

abbrev pub after_status : Status → After
after_status Running = after.GoesOn
after_status (Exited code) = after.Exited
after_status (Stopped cause) = after.Stopped

-- whether the hart goes on
abbrev pub after_in : Option Hart → After
after_in (Some hart) = after_status hart.status
after_in None = after.GoesOn

-- the bytes of an access as a little-endian number; a byte outside of memory is 0
abbrev pub bytes_in : Memory → Access → ℕ
bytes_in m access =
    if access.size == 1 then load m access.first 1 else (if access.size == 2 then load m access.first 2 else load m access.first 4)

-- the row of an entry, by the states before and after it
unfoldable pub row_of : Access → ℕ → Entry → State → State → Row
row_of paused place entry before later = record {
  place = place;
  entry = entry;
  pc = unwrap_or (pc_in before entry) 0;
  word = option_and_then (word_at before.memory) (pc_in before entry);
  access = access_in before entry;
  after = after_in (hart_in later entry);
  bytes = bytes_in later.memory paused;
}

-- The row tells of the entry at the place of a session.
abbrev pub IsRow : Placed → Entry → Access → Row → Type 0
IsRow p entry paused row = SomeState (λ before. SomeState (λ later. row ≡ row_of paused p.place entry before later) (moved p (p.place + 1))) p
