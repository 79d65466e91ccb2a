-- In which way a hart ended.
use Rattle.rv_search.specs.declared.end.End.{End}
use Rattle.rv_search.specs.declared.end.End.TheVariants.{Exited, Stopped, Polls, Idle, Parked, OutOfSteps}
use Rattle.rv_search.specs.declared.end.Way.{Way}
use Rattle.rv_search.specs.declared.end.Way.TheVariants.{Exit, Trap, Wait, Spent}

-- by a call of its own, by a trap, as all that ran waited, or as its run's steps were spent
abbrev pub way : End → Way
way (Exited code) = Exit
way (Stopped cause pc) = Trap
way (Polls pc) = Wait
way Idle = Wait
way Parked = Wait
way OutOfSteps = Spent
