-- The plan of a run: the numbers that it is given.
use Rattle.std.specs.Prelude.{ℕ, ◌+◌, ◌*◌, ◌≤◌}
use Rattle.rv_break.specs.declared.claim.TheConstants.{MOST_SLOTS}
use Rattle.rv_hart.specs.declared.machine.TheConstants.{MOST_HARTS}
use Rattle.rv_collide.specs.declared.plan.TheConstants.{MOST_ARMS, MOST_PAUSE, MOST_STEPS}

-- How many harts there are, how many steps they make together at most, how many addresses are armed in
-- all at most, how many steps of other harts a pause lasts at least, and how many slots there are, each of
-- which watches one pause.
pub record Numbers : Type 0 where
  pub harts : ℕ
  pub steps : ℕ
  pub arms : ℕ
  pub pause : ℕ
  pub slots : ℕ

-- the numbers that a plan may have
pub record IsPlan (n : Numbers) : Type 0 where
  pub some_hart : 1 ≤ n.harts
  pub harts : n.harts ≤ MOST_HARTS
  pub some_step : 1 ≤ n.steps
  pub steps : n.steps ≤ MOST_STEPS
  pub arms : n.arms ≤ MOST_ARMS
  pub some_pause : 1 ≤ n.pause
  pub pause : n.pause ≤ MOST_PAUSE
  pub some_slot : 1 ≤ n.slots
  pub slots : n.slots ≤ MOST_SLOTS

-- how many entries a schedule of the plan has at most: one for each step, and four for each address that
-- is armed
abbrev pub most_entries : Numbers → ℕ
most_entries n = n.steps + 4 * n.arms
