-- The text that endings, and a run that is over, are shown in.
use Rattle.std.specs.Prelude.{◌≡◌, ℕ, ◌+◌, Bool, true, false, Some, List, [], ◌∷◌, ◌++◌, take, slice_get, codes, count_by}
use Rattle.std.specs.Fmt.{decimal}
use Rattle.rv_hart.specs.Texts.{access_text}
use Rattle.rv_text.specs.Hexadecimal.{word_digits}
use Rattle.rv_text.specs.Lines.{text_of_lines}
use Rattle.rv_break.specs.declared.claim.Seen.{Seen}
use Rattle.rv_collide.specs.Grammar.{slot_text}
use Rattle.rv_collide.specs.declared.collider.Finished.{Finished}
use Rattle.rv_collide.specs.declared.ending.Ending.{Ending}
use Rattle.rv_collide.specs.declared.ending.Verdict.{Verdict}
use Rattle.rv_collide.specs.declared.ending.Verdict.TheVariants.{Hit, Changed, Quiet}
use Rattle.rv_collide.specs.declared.entry.Entry.{Entry}
use Rattle.rv_collide.specs.declared.entry.Entry.TheVariants.{Stepped, Paused, Resumed, Armed, Disarmed}

-- `hit J hart H ACCESS`
abbrev pub seen_text : Seen → List ℕ
seen_text seen = codes "hit " ++ decimal seen.place ++ codes " hart " ++ decimal seen.hart ++ codes " " ++ access_text seen.access

-- `hit` with what was seen, `changed`, or `quiet`
abbrev pub verdict_text : Verdict → List ℕ
verdict_text (Hit seen) = seen_text seen
verdict_text Changed = codes "changed"
verdict_text Quiet = codes "quiet"

-- `ending N hart H ACCESS`
abbrev pub pause_text : ℕ → Ending → List ℕ
pause_text number e = codes "ending " ++ decimal number ++ codes " hart " ++ decimal e.hart ++ codes " " ++ access_text e.access

-- ` old VALUE new VALUE`
abbrev pub values_text : ℕ → ℕ → List ℕ
values_text old new' = codes " old " ++ word_digits old ++ codes " new " ++ word_digits new'

-- `ending N hart H ACCESS slot S VERDICT old VALUE new VALUE`, where S is `-` where the pause was unwatched
unfoldable pub ending_line : ℕ → Ending → List ℕ
ending_line number e = pause_text number e ++ codes " slot " ++ slot_text e.slot ++ codes " " ++ verdict_text e.verdict ++ values_text e.old e.new

-- the lines of endings, the first of which has the number
abbrev pub ending_lines : ℕ → List Ending → List (List ℕ)
ending_lines number [] = []
ending_lines number (ending ∷ endings) = ending_line number ending ∷ ending_lines (number + 1) endings

-- the endings, counted from 0, an LF after each
unfoldable pub endings_text : List Ending → List ℕ
endings_text endings = text_of_lines (ending_lines 0 endings)

-- the entry is a turn of a hart: its step, or its pause
abbrev pub is_turn : Entry → Bool
is_turn (Stepped hart) = true
is_turn (Paused hart slot) = true
is_turn (Resumed hart) = false
is_turn (Armed address) = false
is_turn (Disarmed address) = false

-- `turns N`, the number of turns among the entries
abbrev pub turns_line : List Entry → List ℕ
turns_line entries = codes "turns " ++ decimal (count_by is_turn entries)

-- what is shown of a run that is over: its endings, and how many turns its harts took
unfoldable pub finished_text : Finished → List ℕ
finished_text told = endings_text told.endings.items ++ turns_line told.entries.items ++ 10 ∷ []

-- the text of endings with one more of them is their text and that one's line
abbrev pub OneEndingMore : Type 0
OneEndingMore =
    (endings : List Ending) (n : ℕ) (ending : Ending) → slice_get endings n ≡ Some ending → endings_text (take (n + 1) endings) ≡ endings_text (take n endings) ++ (ending_line n ending ++ 10 ∷ [])
