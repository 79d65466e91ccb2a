-- What some quiet steps of a hart did: whether they load data, and what they touch.
use Rattle.std.specs.Prelude.{◌≡◌, ℕ, true, IsTrue, ◌↔◌}
use Rattle.rv_hart.specs.State.{State}
use Rattle.rv_waits.specs.Round.{StepsQuietly}
use Rattle.rv_waits.specs.Touched.{covers}
use Rattle.rv_waits.specs.Touches.{Loads, Touches}
use Rattle.rv_waits.specs.declared.round.Seen.{Seen}

-- n quiet steps of hart h lead from s to t; this is whether one of them loads data, and it covers what they touch
pub record IsTried (h n : ℕ) (s t : State) (seen : Seen) : Type 0 where
  pub steps : StepsQuietly h n s t
  pub loads : IsTrue seen.polls ↔ Loads h n s
  pub touched : (address : ℕ) → Touches h n s address → covers seen.touched address ≡ true
