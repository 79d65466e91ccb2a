-- The schedule text in its two formats, line by line. Format 2 is written; format 1 does not say the slots, which are
-- four. In each format a plan and its entries have one spelling.
use Rattle.std.specs.Prelude.{◌≡◌, ℕ, ◌^◌, ◌<◌, ◌≤◌, ⊤, Option, Some, None, IfSome, All, List, [], ◌∷◌, ◌++◌, map, length, codes}
use Rattle.std.specs.Fmt.{decimal}
use Rattle.rv_text.specs.Hexadecimal.{word_digits}
use Rattle.rv_text.specs.Lines.{text_of_lines}
use Rattle.rv_collide.specs.Numbers.{numbers}
use Rattle.rv_collide.specs.Plan.{Numbers, most_entries}
use Rattle.rv_collide.specs.declared.entry.Entry.{Entry}
use Rattle.rv_collide.specs.declared.entry.Entry.TheVariants.{Stepped, Paused, Resumed, Armed, Disarmed}
use Rattle.rv_collide.specs.declared.plan.Plan.{Plan}
use Rattle.rv_collide.specs.declared.plan.TheConstants.{DEFAULT_SLOTS}
use Rattle.rv_collide.specs.declared.schedule.format.Format.{Format}
use Rattle.rv_collide.specs.declared.schedule.format.Format.TheVariants.{First, Second}

-- the first line, which names the format
abbrev pub header_line : Format → List ℕ
header_line First = codes "rvcollide schedule 1"
header_line Second = codes "rvcollide schedule 2"

-- `harts N steps N arms N pause N`
unfoldable pub numbers_line : Numbers → List ℕ
numbers_line n =
    codes "harts " ++ decimal n.harts ++ codes " steps " ++ decimal n.steps ++ codes " arms " ++ decimal n.arms ++ codes " pause " ++ decimal n.pause

-- the same, and in format 2 ` slots N`
abbrev pub plan_line : Format → Numbers → List ℕ
plan_line First n = numbers_line n
plan_line Second n = numbers_line n ++ codes " slots " ++ decimal n.slots

-- a slot's number, or `-` where there is none
abbrev pub slot_text : Option ℕ → List ℕ
slot_text None = codes "-"
slot_text (Some slot) = decimal slot

-- `s HART`, `p HART SLOT`, `r HART`, `a ADDR` and `d ADDR`
unfoldable pub entry_line : Entry → List ℕ
entry_line (Stepped hart) = codes "s " ++ decimal hart
entry_line (Paused hart slot) = codes "p " ++ decimal hart ++ codes " " ++ slot_text slot
entry_line (Resumed hart) = codes "r " ++ decimal hart
entry_line (Armed address) = codes "a " ++ word_digits address
entry_line (Disarmed address) = codes "d " ++ word_digits address

-- the line after the entries
abbrev pub end_line : List ℕ
end_line = codes "end"

-- the format, the plan, a line of each entry, and `end`
abbrev pub schedule_lines : Format → Numbers → List Entry → List (List ℕ)
schedule_lines format n entries = header_line format ∷ plan_line format n ∷ map entry_line entries ++ end_line ∷ []

-- the lines, an LF after each
unfoldable pub text_in : Format → Numbers → List Entry → List ℕ
text_in format n entries = text_of_lines (schedule_lines format n entries)

-- the text that is written
abbrev pub schedule_text : Numbers → List Entry → List ℕ
schedule_text n entries = text_in Second n entries

-- ---- the schedules that have a text

-- the greatest number of a slot
abbrev pub last_slot : Format → ℕ
last_slot First = 3
last_slot Second = 7

-- an entry's hart is 0 to 15, and its slot at most the last of the format
abbrev pub IsInReach : Format → Entry → Type 0
IsInReach format (Stepped hart) = hart ≤ 15
IsInReach format (Paused hart slot) = (hart ≤ 15) × IfSome slot (λ s. s ≤ last_slot format)
IsInReach format (Resumed hart) = hart ≤ 15
IsInReach format (Armed address) = ⊤
IsInReach format (Disarmed address) = ⊤

-- format 1 has plans of four slots alone
abbrev pub IsOfFormat : Format → Numbers → Type 0
IsOfFormat First n = n.slots ≡ DEFAULT_SLOTS
IsOfFormat Second n = ⊤

-- the plan and its entries have a text of the format
pub record IsWritableIn (format : Format) (n : Numbers) (entries : List Entry) : Type 0 where
  pub plan : IsOfFormat format n
  pub each : All (IsInReach format) entries
  pub few : length entries ≤ most_entries n

-- what a caller that writes a schedule sees to
abbrev pub IsWritable : Numbers → List Entry → Type 0
IsWritable n entries = IsWritableIn Second n entries

-- an entry's address has 32 bits
abbrev pub HasAddress : Entry → Type 0
HasAddress (Stepped hart) = ⊤
HasAddress (Paused hart slot) = ⊤
HasAddress (Resumed hart) = ⊤
HasAddress (Armed address) = address < 2 ^ 32
HasAddress (Disarmed address) = address < 2 ^ 32

-- the text is that of the plan and its entries in the format
pub record GrammarIn (format : Format) (text : List ℕ) (plan : Plan) (entries : List Entry) : Type 0 where
  pub writable : IsWritableIn format (numbers plan) entries
  pub addresses : All HasAddress entries
  pub spelled : text ≡ text_in format (numbers plan) entries

-- the text is that of the plan and its entries, in one of the formats
abbrev pub Grammar : List ℕ → Plan → List Entry → Type 0
Grammar text plan entries = (format : Format) × GrammarIn format text plan entries
