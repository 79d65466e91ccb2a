-- The text that a race table is shown in.
use Rattle.std.specs.Prelude.{ℕ, Option, Some, None, List, [], ◌∷◌, ◌++◌, codes, map, length}
use Rattle.std.specs.Fmt.{decimal}
use Rattle.rv_collide.specs.Texts.{values_text}
use Rattle.rv_collide.specs.declared.ending.Verdict.{Verdict}
use Rattle.rv_collide.specs.declared.ending.Verdict.TheVariants.{Hit, Changed, Quiet}
use Rattle.rv_report.specs.Races.{Table}
use Rattle.rv_report.specs.declared.key.Key.{Key}
use Rattle.rv_report.specs.declared.row.Row.{Row}
use Rattle.rv_text.specs.Hexadecimal.{word_digits}
use Rattle.rv_text.specs.Lines.{text_of_lines}

abbrev pub address_text : Option ℕ → List ℕ
address_text (Some address) = word_digits address
address_text None = codes "-"

abbrev pub verdict_name : Verdict → List ℕ
verdict_name (Hit seen) = codes "hit"
verdict_name Changed = codes "changed"
verdict_name Quiet = codes "quiet"

-- `ADDR ADDR`, or `ADDR -`
abbrev pub key_text : Key → List ℕ
key_text key = word_digits key.first ++ codes " " ++ address_text key.second

-- ` count C run R entry I `, where I is the place of the first ending's pause
abbrev pub count_text : Row → List ℕ
count_text row =
    codes " count " ++ decimal row.count ++ codes " run " ++ decimal row.run ++ codes " entry " ++ decimal row.ending.paused_at ++ codes " "

-- `ADDR ADDR count C run R entry I hit old VALUE new VALUE`, or `ADDR - count C run R entry I changed old VALUE
-- new VALUE`
unfoldable pub row_line : Key × Row → List ℕ
row_line entry =
    key_text entry.0 ++ count_text entry.1 ++ verdict_name entry.1.ending.verdict ++ values_text entry.1.ending.old entry.1.ending.new

-- `races N`
abbrev pub races_line : ℕ → List ℕ
races_line races = codes "races " ++ decimal races

-- `pruned named A flag B counter C`
abbrev pub pruned_line : ℕ → ℕ → ℕ → List ℕ
pruned_line named flag counter =
    codes "pruned named " ++ decimal named ++ codes " flag " ++ decimal flag ++ codes " counter " ++ decimal counter

-- the number of rows, the rows in their order, and the numbers of what was pruned, an LF after each
unfoldable pub table_text : Table → List ℕ
table_text table =
    text_of_lines (races_line (length table.rows) ∷ map row_line table.rows ++ pruned_line table.named table.flag table.counter ∷ [])
