-- the first ones are the same
use Rattle.std.proofs.Common.{◌≡◌, take}
use Rattle.rv_locked.proofs.same.same_segments.Given as goal

abbrev pub invariant-loop-place : goal.invariant-loop-place
invariant-loop-place l = take l.place l.one ≡ take l.place l.other
