use Rattle.std.specs.Prelude.{◌≡◌, take}
use Rattle.rv_walk.proofs.sites.listed.Given as goal

abbrev pub invariant-loop-place : goal.invariant-loop-place
invariant-loop-place l = l.list.items ≡ take l.place l.sampler
