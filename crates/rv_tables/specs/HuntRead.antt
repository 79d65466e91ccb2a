-- What the text of a hunt table says, line by line, or its first line with a fault.
use Rattle.std.specs.Prelude.{◌≡◌, ℕ, ◌+◌, ◌-◌, ◌%◌, ◌^◌, ⊤, Bool, true, false, not, ◌&&◌, ◌==◌, nat_lt, nat_le, if◌then◌else◌, Option, Some, None, option_and_then, option_map, is_some, Result, Ok, Err, List, [], ◌∷◌, ◌++◌, length, drop, codes}
use Rattle.std.specs.Option.{ok_or, option_map_or}
use Rattle.std.specs.Str.{bytes_eq}
use Rattle.rv_collide.specs.ScheduleRead.{address_of, is_over, named, words_of}
use Rattle.rv_races.specs.Classes.{class_word}
use Rattle.rv_races.specs.declared.classes.RaceClass.{RaceClass}
use Rattle.rv_races.specs.declared.classes.RaceClass.TheVariants.{Kept, Counter, Unwatched, Flag, Ordered, Atomic, Named}
use Rattle.rv_tables.specs.HuntText.{verdict_word}
use Rattle.rv_tables.specs.Rows.{has_race}
use Rattle.rv_tables.specs.declared.fault.TableFault.{TableFault}
use Rattle.rv_tables.specs.declared.fault.TableKind.{TableKind}
use Rattle.rv_tables.specs.declared.fault.TableKind.TheVariants as kind
use Rattle.rv_tables.specs.declared.fault.ReadFault.{ReadFault}
use Rattle.rv_tables.specs.declared.fault.ReadFault.TheVariants.{Malformed, NoMemory}
use Rattle.rv_tables.specs.declared.format.TableFormat.{TableFormat}
use Rattle.rv_tables.specs.declared.format.TableFormat.TheVariants.{Hunt, Run}
use Rattle.rv_tables.specs.declared.line.Counts.{Counts}
use Rattle.rv_tables.specs.declared.line.Said.{Said}
use Rattle.rv_tables.specs.declared.line.Values.{Values}
use Rattle.rv_tables.specs.declared.row.RaceRow.{RaceRow}
use Rattle.rv_memory.specs.Chain.{◌>>=◌, want}
use Rattle.rv_report.specs.declared.key.Key.{Key}
use Rattle.rv_text.specs.Pieces.{pieces_of}

abbrev pub option_then : {A B : Type 0} → Option A → (A → Option B) → Option B
option_then o next = option_and_then next o

-- a number of a table, or None where it is over 2^64 - 1
abbrev pub sized : ℕ → Option ℕ
sized n = if nat_le n (2 ^ 64 - 1) then Some n else None

-- ---- what a row's words say, before a number's range is tested

-- `-` for a race of one instruction
abbrev pub second_of : List ℕ → Option (Option ℕ)
second_of word = if bytes_eq word (codes "-") then Some None else option_map Some (address_of word)

-- the addresses, of the words' first two
abbrev pub pair_in : List (List ℕ) → Option Key
pair_in [] = None
pair_in (word ∷ []) = None
pair_in (one ∷ other ∷ words) =
    option_then (address_of one) (λ first. option_then (second_of other) (λ second. Some (record { first = first; second = second })))

-- `count C run R entry I`, of the words' first six
unfoldable pub counts_in : List (List ℕ) → Option Counts
counts_in words =
    option_then (named (codes "count") words) (λ count.
    option_then (named (codes "run") (drop 2 words)) (λ run.
    option_then (named (codes "entry") (drop 4 words)) (λ entry.
    Some (record { count = sized count; run = sized run; entry = sized entry }))))

-- the value that follows the name, of the words' first two
abbrev pub valued : List ℕ → List (List ℕ) → Option ℕ
valued name [] = None
valued name (word ∷ []) = None
valued name (word ∷ digits ∷ words) = if bytes_eq word name then address_of digits else None

-- the verdict of a race of two instructions, or of one
abbrev pub is_verdict : Option ℕ → List ℕ → Bool
is_verdict second word = bytes_eq word (verdict_word second)

-- `hit old V new V`, or `changed` of a race of one instruction, of the words' first five
abbrev pub values_in : Option ℕ → List (List ℕ) → Option Values
values_in second [] = None
values_in second (word ∷ words) =
    if is_verdict second word then
    option_then (valued (codes "old") words) (λ old.
    option_then (valued (codes "new") (drop 2 words)) (λ after. Some (record { old = old; new = after })))
    else None

abbrev pub class_named : List ℕ → Option RaceClass
class_named word =
    if bytes_eq word (class_word Kept) then Some Kept
    else if bytes_eq word (class_word Counter) then Some Counter
    else if bytes_eq word (class_word Unwatched) then Some Unwatched
    else if bytes_eq word (class_word Flag) then Some Flag
    else if bytes_eq word (class_word Ordered) then Some Ordered
    else if bytes_eq word (class_word Atomic) then Some Atomic
    else if bytes_eq word (class_word Named) then Some Named
    else None

-- A race may have the class. What only found its bytes changed is no counter, and what a data breakpoint saw is not unwatched. (Older
-- tables have kept ones of the former.)
abbrev pub may_be : Option ℕ → RaceClass → Bool
may_be None Counter = false
may_be (Some second) Unwatched = false
may_be second class = true

abbrev pub class_of_word : Option ℕ → List ℕ → Option RaceClass
class_of_word second word = option_then (class_named word) (λ class. if may_be second class then Some class else None)

-- the class, of the words that are left; a row of `run` has no such word, and is kept
abbrev pub class_in : TableFormat → Option ℕ → List (List ℕ) → Option RaceClass
class_in Run second [] = Some Kept
class_in Run second (word ∷ words) = None
class_in Hunt second [] = None
class_in Hunt second (word ∷ []) = class_of_word second word
class_in Hunt second (word ∷ next ∷ words) = None

unfoldable pub said_of : TableFormat → List (List ℕ) → Option Said
said_of format words =
    option_then (pair_in words) (λ key.
    option_then (counts_in (drop 2 words)) (λ counts.
    option_then (values_in key.second (drop 8 words)) (λ values.
    option_then (class_in format key.second (drop 13 words)) (λ class.
    Some (record { key = key; counts = counts; values = values; class = class })))))

-- ---- a row

-- an instruction's address
abbrev pub is_aligned : ℕ → Bool
is_aligned address = address % 4 == 0

-- the addresses may be those of a race: the first is not over the second
abbrev pub is_pair : Key → Bool
is_pair key = is_aligned key.first && option_map_or (λ second. is_aligned second && nat_le key.first second) key.second true

-- a number of at least the least and below 2^bits
abbrev pub between : ℕ → ℕ → Option ℕ → Option ℕ
between least bits None = None
between least bits (Some n) = if nat_le least n && nat_lt n (2 ^ bits) then Some n else None

-- the row, where each number is in its range
unfoldable pub row_within : Said → Option (Key × RaceRow)
row_within said =
    option_then (between 1 64 said.counts.count) (λ count.
    option_then (between 0 32 said.counts.run) (λ run.
    option_then (between 0 32 said.counts.entry) (λ entry.
    if is_pair said.key then Some (said.key, record { count = count; class = said.class; run = run; part = 0; entry = entry; old = said.values.old; new = said.values.new; address = None; accesses = None }) else None)))

-- what the line of a row says: its shape is tested first
unfoldable pub row_of_line : TableFormat → List ℕ → Result (Key × RaceRow) TableKind
row_of_line format line = do
  said ← ok_or (said_of format (words_of line)) kind.Shape
  ok_or (row_within said) kind.Range

-- ---- the lines

-- a fault of the line of that number
abbrev pub at_line : {A : Type 0} → ℕ → Result A TableKind → Result A TableFault
at_line number (Ok value) = Ok value
at_line number (Err kind) = Err (record { line = number; kind = kind })

-- the number that follows the name, where there are no other words
abbrev pub only : List ℕ → List (List ℕ) → Option ℕ
only name words = option_then (named name words) (λ n. if length words == 2 then Some n else None)

-- `races N`: how many rows there are said to be, of any size
abbrev pub races_in : List (List ℕ) → Option ℕ
races_in words = only (codes "races") words

unfoldable pub races_of_line : List ℕ → Result ℕ TableKind
races_of_line line = do
  n ← ok_or (races_in (words_of line)) kind.Shape
  ok_or (sized n) kind.Range

-- the first line of a text that is cut at its LFs
abbrev pub rows_said : List (List ℕ) → Result ℕ TableKind
rows_said [] = Err kind.End
rows_said (cut ∷ []) = Err kind.End
rows_said (line ∷ next ∷ lines) = races_of_line line

-- `named A flag B counter C`
unfoldable pub kinds_in : List (List ℕ) → Option ℕ
kinds_in words =
    option_then (named (codes "named") words) (λ n.
    option_then (named (codes "flag") (drop 2 words)) (λ f.
    only (codes "counter") (drop 4 words)))

-- `pruned named A flag B counter C`, the last line of a table of `run`
abbrev pub pruned_in : List (List ℕ) → Option ℕ
pruned_in [] = None
pruned_in (word ∷ words) = if bytes_eq word (codes "pruned") then kinds_in words else None

-- the line ends the table
abbrev pub ends : TableFormat → List ℕ → Bool
ends Hunt line = false
ends Run line = is_some (pruned_in (words_of line))

-- the rows of the lines before, and that of one line more
unfoldable pub with_line : TableFormat → List (Key × RaceRow) → List ℕ → Result (List (Key × RaceRow)) TableFault
with_line format before line = at_line (length before + 2) (row_of_line format line >>= λ row. want (not (has_race row.0 before)) kind.Twice >>= λ _. Ok (before ++ row ∷ []))

-- where the lines end without an LF, or before the line that ends a table of `run`
abbrev pub cut_at : TableFormat → List (Key × RaceRow) → List ℕ → Result (List (Key × RaceRow)) TableFault
cut_at Hunt before cut = at_line (length before + 2) (if length cut == 0 then Ok before else Err kind.End)
cut_at Run before cut = at_line (length before + 2) (Err kind.End)

-- The rows of the lines that follow those of so many rows. The last of these is what no LF ends.
unfoldable pub rows_in : TableFormat → List (Key × RaceRow) → List (List ℕ) → Result (List (Key × RaceRow)) TableFault
rows_in format before [] = cut_at format before []
rows_in format before (cut ∷ []) = cut_at format before cut
rows_in format before (line ∷ next ∷ lines) =
    if ends format line then at_line (length before + 3) (if is_over (next ∷ lines) then Ok before else Err kind.End)
    else with_line format before line >>= λ rows. rows_in format rows (next ∷ lines)

-- the rows, which are as many as the first line says
unfoldable pub table_in : TableFormat → List (List ℕ) → Result (List (Key × RaceRow)) TableFault
table_in format lines = do
  said ← at_line 1 (rows_said lines)
  rows ← rows_in format [] (drop 1 lines)
  _ ← at_line (length rows + 2) (want (length rows == said) kind.End)
  Ok rows

-- The rows that a text says, or its first line with a fault. The text is cut at its LFs.
unfoldable pub read : TableFormat → List ℕ → Result (List (Key × RaceRow)) TableFault
read format text = table_in format (pieces_of 10 text)

-- the fault at the later line, since the text fits that kind of table up to there; else that of a hunt table
abbrev pub farther : TableFault → TableFault → TableFault
farther hunt run = if nat_lt hunt.line run.line then run else hunt

abbrev pub expected_by : Result (List (Key × RaceRow)) TableFault → Result (List (Key × RaceRow)) TableFault → Result (List (Key × RaceRow)) TableFault
expected_by (Ok rows) other = Ok rows
expected_by (Err fault) (Ok rows) = Ok rows
expected_by (Err fault) (Err other) = Err (farther fault other)

-- a hunt table, or else one of `run`; where the text is neither, the fault of the kind that it fits further
unfoldable pub read_either : List ℕ → Result (List (Key × RaceRow)) TableFault
read_either text = expected_by (read Hunt text) (read Run text)

-- the fault is the one that is told of the text; that memory is out says nothing of it
abbrev pub IsTold : {A : Type 0} → Result A TableFault → ReadFault → Type 0
IsTold said (Malformed fault) = said ≡ Err fault
IsTold said NoMemory = ⊤
