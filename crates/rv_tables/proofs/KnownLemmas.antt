-- What is expected by a table is read alike.
use Rattle.std.proofs.Common.{◌≡◌, ℕ, Bool, true, false, List, length, refl}
use Rattle.std.specs.Prelude.{nat_lt, if◌then◌else◌, Ok, Err}
use Rattle.rv_faults.specs.declared.fault.Fault.TheVariants.{TooLong}
use Rattle.rv_memory.specs.Chain.{◌>>=◌}
use Rattle.rv_memory.specs.declared.flagged.TheConstants.{INPUT_LIMIT}
use Rattle.rv_tables.specs.declared.merge.known.Known.TheVariants.{Table}
use Rattle.rv_tables.specs.merge.FileFault.{plainly}
use Rattle.rv_tables.specs.merge.Known.{is_table, known_of, list_of, table_of}
use Rattle.rv_tables.specs.merge.KnownLaws.{TablesAreExpectedAlike}
use Rattle.rv_tables.specs.merge.TableFiles.{expected_rows, expected_table}

alike_by : (bytes : List ℕ) (is_long : Bool) → is_table bytes ≡ true
    → (plainly (if is_long then Err TooLong else Ok bytes) >>= λ text. (if is_table text then table_of text else list_of text))
    ≡ ((plainly (if is_long then Err TooLong else Ok bytes) >>= λ text. expected_rows text) >>= λ rows. Ok (Table rows))
alike_by bytes true is = refl
alike_by bytes false is = rw is refl

pub expected_alike : TablesAreExpectedAlike
unfolding known_of expected_table
expected_alike bytes is = alike_by bytes (nat_lt INPUT_LIMIT (length bytes)) is
