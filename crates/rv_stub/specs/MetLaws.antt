-- The access that met a pause is the one that the exhibit of its ending has.
use Rattle.std.specs.Prelude.{◌≡◌, ℕ, ◌↔◌, Some}
use Rattle.rv_collide.specs.declared.ending.Ending.{Ending}
use Rattle.rv_debug.specs.Placed.{Placed, setting}
use Rattle.rv_report.specs.Exhibit.{IsOther}
use Rattle.rv_report.specs.OfPause.{IsOfPause}
use Rattle.rv_stub.specs.Met.{place_by}

-- It is found at a place exactly where an exhibit names that place beside the pause.
abbrev pub MetIsExhibited : Type 0
MetIsExhibited =
    (p : Placed) (told : Ending) (place : ℕ) → IsOfPause (setting p).start p.entries told → (place_by p told told.verdict ≡ Some place) ↔ IsOther (setting p).start p.entries told told.verdict place
