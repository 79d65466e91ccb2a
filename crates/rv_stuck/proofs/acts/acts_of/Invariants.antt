use Rattle.std.proofs.Common.{◌≡◌, map, take}
use Rattle.rv_stuck.specs.Acts.{conduct_in, conduct_of}
use Rattle.rv_stuck.proofs.acts.acts_of.Given as goal

abbrev pub invariant-loop-h : goal.invariant-loop-h
invariant-loop-h l = map conduct_in l.acts.items ≡ map conduct_of (take l.h l.end.harts.items)
