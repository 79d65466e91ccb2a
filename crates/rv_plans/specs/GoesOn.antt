-- Which runs a hunt makes.
use Rattle.std.specs.Prelude.{⊤, ℕ, ◌+◌, ◌≤◌, ◌&&◌, Bool, not, nat_le, nat_lt}
use Rattle.rv_plans.specs.declared.limit.Limit.{Limit}
use Rattle.rv_plans.specs.declared.limit.Limit.TheVariants.{Runs, Budget}
use Rattle.rv_plans.specs.declared.limit.Reached.{Reached}
use Rattle.rv_plans.specs.declared.limit.TheConstants.{MOST_BUDGET}

-- Whether the run behind those from one on is made: where so many runs are asked for, while there are fewer; else while
-- they cost less than the budget, up to the last run's number, if there is hope.
abbrev pub goes_on : Limit → ℕ → Reached → Bool
goes_on (Runs runs) first reached = nat_lt reached.runs runs
goes_on (Budget steps) first reached = nat_le (first + reached.runs) 4_294_967_295 && nat_lt reached.cost steps && not reached.is_hopeless

-- what a hunt may be asked for
abbrev pub IsLimit : Limit → Type 0
IsLimit (Runs runs) = ⊤
IsLimit (Budget steps) = steps ≤ MOST_BUDGET
