-- Tables are read one after another.
use Rattle.std.specs.Prelude.{ℕ, ◌+◌, Bool, Result, Ok, List, [], ◌∷◌, ◌++◌}
use Rattle.rv_memory.specs.Chain.{◌>>=◌}
use Rattle.rv_tables.specs.merge.Merge.{given_as, in_file}
use Rattle.rv_tables.specs.merge.TableFiles.{hunt_table}
use Rattle.rv_tables.specs.declared.merge.MergeFault.{MergeFault}
use Rattle.rv_tables.specs.declared.merge.whole.GivenTable.{GivenTable}
use Rattle.rv_tables.specs.declared.merge.whole.Whole.{Whole}
use Rattle.rv_tables.specs.merge.Whole.{whole_of}

-- the tables before, and that of the file of that number
unfoldable pub with_file : ℕ → List GivenTable → List ℕ → Result (List GivenTable) MergeFault
with_file number before bytes = in_file number (hunt_table bytes) >>= λ table. Ok (before ++ given_as number table ∷ [])

-- the tables before, and those of files the first of which has this number
unfoldable pub with_files : ℕ → List GivenTable → List (List ℕ) → Result (List GivenTable) MergeFault
with_files number before [] = Ok before
with_files number before (bytes ∷ later) = with_file number before bytes >>= λ tables. with_files (number + 1) tables later

-- what the tables of files make
abbrev pub whole_in : Bool → List (List ℕ) → Result Whole MergeFault
whole_in gaps files = with_files 0 [] files >>= whole_of gaps
