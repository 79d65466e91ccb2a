use Rattle.std.specs.Prelude.{◌≡◌}
use Rattle.rv_hart.specs.State.{State}
use Rattle.rv_waits.specs.Stuck.{Runs}
use Rattle.rv_walk.specs.Burst.{longer}
use Rattle.rv_walk.specs.Walked.{IsAt}
use Rattle.rv_walk.proofs.walk.Walk.burst.Given as goal

abbrev pub invariant-loop-turn : goal.invariant-loop-turn
invariant-loop-turn g l = record {
  walk : l.self ≡ longer l.initial.self l.h l.turn;
  runs : (s : State) → IsAt l.self s → Runs s l.h;
}
