-- the harts of the steps so far
use Rattle.std.proofs.Common.{◌≡◌, take}
use Rattle.rv_collide.specs.Entries.{steps}
use Rattle.rv_report.proofs.exhibiting.steps.Given as goal

abbrev pub invariant-loop-i : goal.invariant-loop-i
invariant-loop-i l = l.harts.items ≡ steps (take l.i l.entries)
