-- what the bytes need is found in the regions that were not looked at yet, or nowhere
use Rattle.std.proofs.Common.{◌≡◌, drop}
use Rattle.std.specs.Prelude.{◌&&◌}
use Rattle.std.specs.List.{list_any}
use Rattle.rv_memory.specs.Memory.{holds, allows}
use Rattle.rv_memory.specs.Pages.{extent}
use Rattle.rv_memory.proofs.paged.find_permitted.Given as goal

abbrev pub invariant-loop-place : goal.invariant-loop-place
invariant-loop-place l =
    list_any (λ t. holds (extent t) l.address l.size && allows (extent t) l.need) (drop l.place l.tables) ≡ list_any (λ t. holds (extent t) l.address l.size && allows (extent t) l.need) l.tables
