-- Whose turn is next, where harts that wait are passed over.
use Rattle.std.specs.Prelude.{◌≡◌, ℕ, ◌+◌, ◌%◌, ◌<◌, length}
use Rattle.rv_hart.specs.State.{State}
use Rattle.rv_waits.specs.Round.{Waits}
use Rattle.rv_waits.specs.Stuck.{Runs}

-- the hart doesn't run, or it waits: it may be passed over
abbrev pub MayRest : State → ℕ → Type 0
MayRest s h = Runs s h → Waits s h

-- each hart may rest: then nothing ever changes
abbrev pub AllMayRest : State → Type 0
AllMayRest s = (h : ℕ) → MayRest s h

-- Counted from a number on, in a circle, h is a hart that runs, and each before it may rest.
pub record IsNextFrom (s : State) (from h : ℕ) : Type 0 where
  pub passed : ℕ
  pub few : passed < length s.harts
  pub is_hart : h ≡ (from + passed) % length s.harts
  pub runs : Runs s h
  pub rest : (k : ℕ) → k < passed → MayRest s ((from + k) % length s.harts)
