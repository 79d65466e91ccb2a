-- What is told of a hart that waits.
use Rattle.std.specs.Prelude.{ℕ, IsTrue, ◌↔◌}
use Rattle.rv_hart.specs.State.{State}
use Rattle.rv_waits.specs.Round.{IsRound}
use Rattle.rv_waits.specs.Touches.{Loads}
use Rattle.rv_waits.specs.declared.round.Round.{Round}

-- It is a round of the hart from that state, and it says whether the hart polls there.
pub record IsPolled (s : State) (h : ℕ) (round : Round) : Type 0 where
  pub is_round : IsRound s h round.steps
  pub polls : IsTrue round.polls ↔ Loads h round.steps s
