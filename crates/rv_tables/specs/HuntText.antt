-- The text of a hunt table.
use Rattle.std.specs.Prelude.{ℕ, Option, Some, None, List, ◌∷◌, ◌++◌, codes, map, length}
use Rattle.std.specs.Fmt.{decimal}
use Rattle.rv_collide.specs.Texts.{values_text}
use Rattle.rv_races.specs.Classes.{class_word}
use Rattle.rv_tables.specs.declared.row.RaceRow.{RaceRow}
use Rattle.rv_report.specs.TableText.{key_text, races_line}
use Rattle.rv_report.specs.declared.key.Key.{Key}
use Rattle.rv_text.specs.Lines.{text_of_lines}

-- of two instructions `hit`, of one `changed`
abbrev pub verdict_word : Option ℕ → List ℕ
verdict_word (Some second) = codes "hit"
verdict_word None = codes "changed"

-- ` count C run R entry I `, where I is the place of the pause
abbrev pub count_text : RaceRow → List ℕ
count_text row =
    codes " count " ++ decimal row.count ++ codes " run " ++ decimal row.run ++ codes " entry " ++ decimal row.entry ++ codes " "

-- `ADDR ADDR count C run R entry I hit old VALUE new VALUE CLASS`, or `ADDR - count C run R entry I changed old
-- VALUE new VALUE CLASS`
unfoldable pub row_line : Key × RaceRow → List ℕ
row_line row =
    key_text row.0 ++ count_text row.1 ++ verdict_word row.0.second ++ values_text row.1.old row.1.new ++ (codes " " ++ class_word row.1.class)

-- the number of rows, and the rows in their order, an LF after each
unfoldable pub table_text : List (Key × RaceRow) → List ℕ
table_text rows = text_of_lines (races_line (length rows) ∷ map row_line rows)
