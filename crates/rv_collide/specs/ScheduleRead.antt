-- What a schedule's text says, line by line, or its first line with a fault. That the texts that are read
-- are those of the grammar is a law.
use Rattle.std.specs.Prelude.{◌≡◌, ℕ, ◌+◌, ◌-◌, ◌<◌, ◌≤◌, ◌⊎◌, ⊤, Bool, true, false, MatchBool, ◌&&◌, ◌==◌, nat_lt, nat_le, if◌then◌else◌, Option, Some, None, option_and_then, option_map, Result, Ok, Err, List, [], ◌∷◌, length, drop, codes, count_by, slice_get, IsSome, IsSomeAnd}
use Rattle.std.specs.Option.{ok_or}
use Rattle.std.specs.Str.{bytes_eq}
use Rattle.rv_break.specs.declared.claim.TheConstants.{MOST_SLOTS}
use Rattle.rv_hart.specs.declared.machine.TheConstants.{MOST_HARTS}
use Rattle.rv_memory.specs.Chain.{◌>>=◌, want}
use Rattle.rv_text.specs.Decimal.{decimal_of}
use Rattle.rv_text.specs.Hexadecimal.{word_digits, word_of}
use Rattle.rv_text.specs.Numeral.{up_to}
use Rattle.rv_text.specs.Pieces.{pieces_of}
use Rattle.rv_collide.specs.Grammar.{header_line, end_line, last_slot}
use Rattle.rv_collide.specs.Plan.{Numbers, most_entries}
use Rattle.rv_collide.specs.declared.entry.Entry.{Entry}
use Rattle.rv_collide.specs.declared.entry.Entry.TheVariants.{Stepped, Paused, Resumed, Armed, Disarmed}
use Rattle.rv_collide.specs.declared.plan.TheConstants.{DEFAULT_SLOTS, MOST_ARMS, MOST_PAUSE, MOST_STEPS}
use Rattle.rv_collide.specs.declared.schedule.fault.ScheduleFault.{ScheduleFault}
use Rattle.rv_collide.specs.declared.schedule.fault.ScheduleKind.{ScheduleKind}
use Rattle.rv_collide.specs.declared.schedule.fault.ScheduleKind.TheVariants as kind
use Rattle.rv_collide.specs.declared.schedule.format.Format.{Format}
use Rattle.rv_collide.specs.declared.schedule.format.Format.TheVariants.{First, Second}

-- ---- steps that may fail

-- a fault of the line of that number
abbrev pub at_line : {A : Type 0} → ℕ → Result A ScheduleKind → Result A ScheduleFault
at_line number (Ok value) = Ok value
at_line number (Err kind) = Err (record { line = number; kind = kind })

-- ---- what a line says

-- the words of a line, with one blank between two of them
abbrev pub words_of : List ℕ → List (List ℕ)
words_of line = pieces_of 32 line

-- the number that follows the name, of the words' first two
abbrev pub named : List ℕ → List (List ℕ) → Option ℕ
named name [] = None
named name (word ∷ []) = None
named name (word ∷ numeral ∷ words) = if bytes_eq word name then decimal_of numeral else None

abbrev option_then : {A B : Type 0} → Option A → (A → Option B) → Option B
option_then o next = option_and_then next o

-- the slots that the words after the other numbers say, of any size; format 1 has no such words, and four slots
abbrev pub slots_in : Format → List (List ℕ) → Option ℕ
slots_in First words = if length words == 0 then Some DEFAULT_SLOTS else None
slots_in Second words = option_then (named (codes "slots") words) (λ slots. if length words == 2 then Some slots else None)

-- the numbers of a plan line, of any size
unfoldable pub numbers_of : Format → List (List ℕ) → Option Numbers
numbers_of format words =
    option_then (named (codes "harts") words) (λ harts.
    option_then (named (codes "steps") (drop 2 words)) (λ steps.
    option_then (named (codes "arms") (drop 4 words)) (λ arms.
    option_then (named (codes "pause") (drop 6 words)) (λ pause.
    option_then (slots_in format (drop 8 words)) (λ slots.
    Some (record { harts = harts; steps = steps; arms = arms; pause = pause; slots = slots }))))))

-- the numbers are in the range of a plan
abbrev pub is_plan : Numbers → Bool
is_plan n =
    nat_le 1 n.harts && nat_le n.harts MOST_HARTS && nat_le 1 n.steps && nat_le n.steps MOST_STEPS && nat_le n.arms MOST_ARMS && nat_le 1 n.pause && nat_le n.pause MOST_PAUSE && nat_le 1 n.slots && nat_le n.slots MOST_SLOTS

-- what a plan line says: its shape is tested first
unfoldable pub plan_of : Format → List ℕ → Result Numbers ScheduleKind
plan_of format line = do
  numbers ← ok_or (numbers_of format (words_of line)) kind.PlanLine
  _ ← want (is_plan numbers) kind.PlanRange
  Ok numbers

abbrev pub hart_of : List ℕ → Option ℕ
hart_of word = up_to 15 (decimal_of word)

-- a slot, or `-` where there is none
abbrev pub slot_of : Format → List ℕ → Option (Option ℕ)
slot_of format word = if bytes_eq word (codes "-") then Some None else option_map Some (up_to (last_slot format) (decimal_of word))

-- an address in eight digits, none of which is a capital letter
abbrev pub address_of : List ℕ → Option ℕ
address_of word = option_and_then (λ address. if bytes_eq (word_digits address) word then Some address else None) (word_of word)

-- an entry of two words
abbrev pub short_entry : List ℕ → List ℕ → Option Entry
short_entry name word =
    if bytes_eq name (codes "s") then option_map Stepped (hart_of word)
    else if bytes_eq name (codes "r") then option_map Resumed (hart_of word)
    else if bytes_eq name (codes "a") then option_map Armed (address_of word)
    else if bytes_eq name (codes "d") then option_map Disarmed (address_of word)
    else None

-- an entry of three words
abbrev pub pause_entry : Format → List ℕ → List ℕ → List ℕ → Option Entry
pause_entry format name hart slot =
    if bytes_eq name (codes "p") then option_then (hart_of hart) (λ h. option_map (Paused h) (slot_of format slot)) else None

abbrev pub entry_in : Format → List (List ℕ) → Option Entry
entry_in format [] = None
entry_in format (name ∷ []) = None
entry_in format (name ∷ word ∷ []) = short_entry name word
entry_in format (name ∷ hart ∷ slot ∷ []) = pause_entry format name hart slot
entry_in format (name ∷ hart ∷ slot ∷ word ∷ words) = None

-- what a line of an entry says
unfoldable pub entry_of : Format → List ℕ → Option Entry
entry_of format line = entry_in format (words_of line)

-- ---- the lines

-- The most bytes of a line, its LF not counted.
abbrev pub most_line : ℕ
most_line = 64

-- The first line of a text that is cut at its LFs, the last piece being what no LF ends.
abbrev pub first_line : List (List ℕ) → Result (List ℕ) ScheduleKind
first_line [] = Err kind.NoEnd
first_line (cut ∷ []) = if nat_lt most_line (length cut) then Err kind.TooLong else Err kind.NoEnd
first_line (line ∷ next ∷ lines) = if nat_lt most_line (length line) then Err kind.TooLong else Ok line

-- no byte is left after the LF
abbrev pub is_over : List (List ℕ) → Bool
is_over [] = true
is_over (cut ∷ []) = length cut == 0
is_over (line ∷ next ∷ lines) = false

-- The entries of the lines, the first of which has the number, up to `end`. There is room for so many.
unfoldable pub entries_from : Format → ℕ → ℕ → List (List ℕ) → Result (List Entry) ScheduleFault
entries_from format number room [] = Err (record { line = number; kind = kind.NoEnd })
entries_from format number room (first ∷ lines) = do
  line ← at_line number (first_line (first ∷ lines))
  if bytes_eq line end_line then at_line (number + 1) (want (is_over lines) kind.AfterEnd >>= λ _. Ok []) else do
    entry ← at_line number (ok_or (entry_of format line) kind.Entry)
    _ ← at_line number (want (nat_lt 0 room) kind.TooMany)
    entries ← entries_from format (number + 1) (room - 1) lines
    Ok (entry ∷ entries)

-- a plan's numbers and its entries
pub record Schedule : Type 0 where
  pub numbers : Numbers
  pub entries : List Entry

-- the format that a line names
abbrev pub format_of : List ℕ → Result Format ScheduleKind
format_of line =
    if bytes_eq line (header_line First) then Ok First
    else if bytes_eq line (header_line Second) then Ok Second
    else Err kind.Header

-- the format, which the first line names
abbrev pub header_in : List (List ℕ) → Result Format ScheduleKind
header_in lines = do
  line ← first_line lines
  format_of line

-- the numbers of the plan, which the first line says
abbrev pub plan_in : Format → List (List ℕ) → Result Numbers ScheduleKind
plan_in format lines = do
  line ← first_line lines
  plan_of format line

-- what the lines of a schedule say
unfoldable pub schedule_in : List (List ℕ) → Result Schedule ScheduleFault
schedule_in lines = do
  format ← at_line 1 (header_in lines)
  numbers ← at_line 2 (plan_in format (drop 1 lines))
  entries ← entries_from format 3 (most_entries numbers) (drop 2 lines)
  Ok (record { numbers = numbers; entries = entries })

-- What a text says, or its first line with a fault. The text is cut at its LFs.
unfoldable pub schedule_of : List ℕ → Result Schedule ScheduleFault
schedule_of text = schedule_in (pieces_of 10 text)

-- a fault of the text, and not of the reader or of memory
abbrev pub is_of_text : ScheduleKind → Bool
is_of_text kind.Read = false
is_of_text kind.NoMemory = false
is_of_text _ = true

-- the fault is the one that is told of the text; that the reader failed or memory is out says nothing of it
abbrev pub IsToldFault : {A : Type 0} → Result A ScheduleFault → ScheduleFault → Type 0
IsToldFault said fault = MatchBool (is_of_text fault.kind) (said ≡ Err fault) ⊤

-- the line that is being taken when so much of a text has been
abbrev pub line_after : List ℕ → ℕ
line_after taken = count_by (λ byte. byte == 10) taken + 1

-- Each line says an entry, from the third of the text, which is the first of these, to the one of the number.
pub record AreEntriesTo (format : Format) (lines : List (List ℕ)) (last : ℕ) : Type 0 where
  pub after_plan : 3 ≤ last
  pub each : (index : ℕ) → index < last - 2 → IsSomeAnd (slice_get lines index) (λ line. IsSome (entry_of format line))

-- Each line after the plan's, up to the one of the number, says an entry of the format that the first line names.
pub record IsAnEntryLine (taken : List ℕ) (line : ℕ) : Type 0 where
  pub format : Format
  pub of_format : header_in (pieces_of 10 taken) ≡ Ok format
  pub entries : AreEntriesTo format (drop 2 (pieces_of 10 taken)) line

-- The line at which reading was broken off when so much of the text had been taken: the one that was being
-- taken; or, where memory was out, one of an entry, which there was no room for.
abbrev pub IsBrokenOff : List ℕ → ℕ → ScheduleKind → Type 0
IsBrokenOff taken line kind.Read = line ≡ line_after taken
IsBrokenOff taken line kind.NoMemory = (line ≡ line_after taken) ⊎ IsAnEntryLine taken line
IsBrokenOff taken line _ = ⊤

-- the fault is that the reader failed
abbrev pub is_read : ScheduleKind → Bool
is_read kind.Read = true
is_read _ = false

-- something was refused because the reader failed
abbrev pub fails_reading : {A : Type 0} → Result A ScheduleFault → Bool
fails_reading (Ok value) = false
fails_reading (Err fault) = is_read fault.kind
