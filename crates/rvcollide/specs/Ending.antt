-- How a hunt's exit status follows from what it found.
use Rattle.std.specs.Prelude.{Result, Ok, Err, if◌then◌else◌}
use Rattle.rv_command.specs.declared.command.hunt.HuntLine.{HuntLine}
use Rattle.rv_shown.specs.declared.found.Checks.{Checks}
use Rattle.rv_shown.specs.declared.found.Found.{Found}
use Rattle.rv_shown.specs.Checks.{are_met, are_void}
use Rattle.rvcollide.specs.declared.failure.Failure.{Failure}
use Rattle.rvcollide.specs.declared.failure.Failure.TheVariants as failure

-- what the line asks to be told
abbrev pub checks_of : HuntLine → Checks
checks_of line = record { races = line.checks; all_races = line.checks_all; ends = line.check_ends }

-- what was found goes first
abbrev pub ending_of : HuntLine → Found → Result (Unit {0}) Failure
ending_of line found = if are_met (checks_of line) found then Err failure.Found else (if are_void (checks_of line) found then Err failure.Void else Ok tt)
