-- the bytes lie in a region that was not looked at yet
use Rattle.std.proofs.Common.{◌≡◌, true, drop}
use Rattle.std.specs.List.{list_any}
use Rattle.rv_memory.specs.Memory.{holds}
use Rattle.rv_memory.specs.Pages.{extent}
use Rattle.rv_memory.proofs.paged.find.Given as goal

abbrev pub invariant-loop-place : goal.invariant-loop-place
invariant-loop-place l = list_any (λ t. holds (extent t) l.address l.size) (drop l.place l.tables) ≡ true
