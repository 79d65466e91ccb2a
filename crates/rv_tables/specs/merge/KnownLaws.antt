-- What holds of the files that say which races are expected.
use Rattle.std.specs.Prelude.{◌≡◌, ℕ, true, Ok, List}
use Rattle.rv_tables.specs.merge.Known.{is_table, known_of}
use Rattle.rv_tables.specs.merge.TableFiles.{expected_table}
use Rattle.rv_tables.specs.declared.merge.known.Known.TheVariants.{Table}
use Rattle.rv_memory.specs.Chain.{◌>>=◌}

-- A table is the same to `hunt --expect` and to `merge --expect`: both take it with the same rows, or refuse it by the same fault.
abbrev pub TablesAreExpectedAlike : Type 0
TablesAreExpectedAlike = (bytes : List ℕ) → is_table bytes ≡ true → known_of bytes ≡ (expected_table bytes >>= λ rows. Ok (Table rows))
