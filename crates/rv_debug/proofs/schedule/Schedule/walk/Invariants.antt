-- the machine stands at the place
use Rattle.rv_debug.specs.internal.Session.{StandsAt}
use Rattle.rv_debug.proofs.schedule.Schedule.walk.Given as goal

abbrev pub invariant-loop-place : goal.invariant-loop-place
invariant-loop-place l = StandsAt l.self l.place l.machine
