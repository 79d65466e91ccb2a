-- When a machine is stuck: a hart runs, and each that runs waits.
use Rattle.std.specs.Prelude.{◌≡◌, ℕ, true, slice_get}
use Rattle.rv_hart.specs.Refusals.{is_running_hart}
use Rattle.rv_hart.specs.State.{State}
use Rattle.rv_waits.specs.Round.{Waits}

-- there is a hart h, and it runs
abbrev pub Runs : State → ℕ → Type 0
Runs s h = is_running_hart (slice_get s.harts h) ≡ true

-- some hart runs, and every hart that runs waits
pub record IsStuck (s : State) : Type 0 where
  pub some : (h : ℕ) × Runs s h
  pub each : (h : ℕ) → Runs s h → Waits s h
