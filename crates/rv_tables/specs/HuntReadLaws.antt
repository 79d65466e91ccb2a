-- A hunt table that is written is read back.
use Rattle.std.specs.Prelude.{◌≡◌, ◌^◌, ◌<◌, ◌≤◌, Bool, true, not, ◌&&◌, None, Ok, List, [], ◌∷◌, ◌++◌, All, IfSome, length, map}
use Rattle.rv_tables.specs.HuntRead.{is_pair, may_be, read}
use Rattle.rv_tables.specs.HuntText.{table_text}
use Rattle.rv_tables.specs.Rows.{has_race}
use Rattle.rv_tables.specs.declared.format.TableFormat.TheVariants.{Hunt}
use Rattle.rv_tables.specs.declared.row.RaceRow.{RaceRow}
use Rattle.rv_report.specs.declared.key.Key.{Key}

-- The row is one that a table may have: of one report or more, its numbers in their ranges, of two instructions in their order or
-- of one, and of a class that such a race may have.
pub record IsRow (row : Key × RaceRow) : Type 0 where
  pub first : row.0.first < 2 ^ 32
  pub second : IfSome row.0.second (λ address. address < 2 ^ 32)
  pub pair : is_pair row.0 ≡ true
  pub class : may_be row.0.second row.1.class ≡ true
  pub some : 1 ≤ row.1.count
  pub count : row.1.count < 2 ^ 64
  pub run : row.1.run < 2 ^ 32
  pub entry : row.1.entry < 2 ^ 32
  pub old : row.1.old < 2 ^ 32
  pub after : row.1.new < 2 ^ 32

-- no row is of a race that has a row before it
abbrev pub are_apart : List (Key × RaceRow) → List (Key × RaceRow) → Bool
are_apart before [] = true
are_apart before (row ∷ rows) = not (has_race row.0 before) && are_apart (before ++ row ∷ []) rows

pub record AreRows (rows : List (Key × RaceRow)) : Type 0 where
  pub each : All IsRow rows
  pub apart : are_apart [] rows ≡ true
  pub few : length rows < 2 ^ 64

-- a row as its line says it: what stands in no line is not known
abbrev pub said : Key × RaceRow → Key × RaceRow
said row = (row.0, record row.1 { part = 0; address = None; accesses = None })

-- So the rows that a merge reads are those that were written, and `PiecesAreMerged` is of the files too: it is of the text before a table's
-- last line.
abbrev pub TablesAreReadBack : Type 0
TablesAreReadBack = (rows : List (Key × RaceRow)) → AreRows rows → read Hunt (table_text rows) ≡ Ok (map said rows)
