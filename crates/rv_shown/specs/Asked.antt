-- What the options of `hunt` ask for.
use Rattle.std.specs.Prelude.{ℕ, ◌≤◌, Option, option_map, List}
use Rattle.rv_search.specs.Hunt.{AreNumbers}
use Rattle.rv_plans.specs.GoesOn.{IsLimit}
use Rattle.rv_plans.specs.Plans.{Given}
use Rattle.rv_plans.specs.declared.limit.Limit.{Limit}
use Rattle.rv_shown.specs.declared.options.HuntOptions.{HuntOptions}
use Rattle.rv_search.specs.declared.aim.Sides.{Sides}
use Rattle.rv_shown.specs.declared.options.TheConstants.{MOST_WORKERS}

-- What is given of the runs' plans, their seed, the number of the first, how far the hunt goes, the names, the addresses and
-- the idle functions that are listed, the two sides that are aimed at, and the exit codes that are right.
pub record Asked : Type 0 where
  pub given : Given
  pub seed : ℕ
  pub first : ℕ
  pub limit : Limit
  pub named : Option (List ℕ)
  pub skip : Option (List ℕ)
  pub idle : Option (List ℕ)
  pub aim : Option (List ℕ × List ℕ)
  pub right : Option (List ℕ)

-- what some options ask for, their lists as texts
abbrev pub asked : HuntOptions → Asked
asked options = record {
  given = options.plans;
  seed = options.seed;
  first = options.first;
  limit = options.limit;
  named = option_map (λ text. text.now) options.named;
  skip = option_map (λ text. text.now) options.skip;
  idle = option_map (λ text. text.now) options.idle;
  aim = option_map (λ (sides : Sides). (sides.one.now, sides.other.now)) options.aim;
  right = option_map (λ text. text.now) options.right;
}

-- There can be such a hunt: by its limit and the numbers of its runs, and by the number of its workers.
abbrev pub AreLegal : HuntOptions → Type 0
AreLegal options =
    (IsLimit options.limit × AreNumbers options.first options.limit) × ((1 ≤ options.workers) × (options.workers ≤ MOST_WORKERS))
