-- How a hunt's exit status follows from what it found.
use Rattle.std.specs.Prelude.{ℕ, Bool, ◌==◌, ◌&&◌, ◌||◌, nat_lt, if◌then◌else◌}
use Rattle.rv_shown.specs.declared.found.Checks.{Checks}
use Rattle.rv_shown.specs.declared.found.Found.{Found}
use Rattle.rv_shown.specs.declared.found.TheConstants.{FOUND_STATUS, VOID_STATUS}

-- There is a race that may be a bug, where these or all are asked for; a likely benign one, where all are; harts that wait for ever or a
-- hart that ended as it should not, where ends are; or a race that may be a bug and is not expected.
abbrev pub are_met : Checks → Found → Bool
are_met checks found =
    (checks.races || checks.all_races) && nat_lt 0 found.bugs || checks.all_races && nat_lt 0 found.benign || checks.ends && (nat_lt 0 found.stuck || found.has_wrong_end) || found.is_unexpected

-- There is no race that may be a bug, where these are asked for, and a warning says that this means nothing.
abbrev pub are_void : Checks → Found → Bool
are_void checks found = checks.races && found.bugs == 0 && found.is_void

-- what was found goes first
abbrev pub status : Checks → Found → ℕ
status checks found = if are_met checks found then FOUND_STATUS else (if are_void checks found then VOID_STATUS else 0)
