-- Which accesses meet the bytes of a report.
use Rattle.std.specs.Prelude.{ℕ, Bool, false, ◌&&◌, nat_lt, Option, Some, None}
use Rattle.rv_collide.specs.declared.ending.Ending.{Ending}
use Rattle.rv_hart.specs.Conflict.{meets}
use Rattle.rv_hart.specs.declared.access.Access.{Access}

-- a step has met the bytes of the report
abbrev pub met : Access → Option Access → Bool
met paused None = false
met paused (Some access) = meets paused access

-- and has written one of them
abbrev pub wrote : Access → Option Access → Bool
wrote paused None = false
wrote paused (Some access) = access.write && meets paused access

abbrev pub is_within : Ending → ℕ → Bool
is_within told place = nat_lt told.paused_at place && nat_lt place told.resumed_at
