-- The second access of a report, as it is shown, is the one that its exhibit has.
use Rattle.std.specs.Prelude.{◌≡◌, ℕ, Some}
use Rattle.rv_collide.specs.First.{seen_at}
use Rattle.rv_collide.specs.declared.ending.Ending.{Ending}
use Rattle.rv_explain.specs.BlockOf.{second}
use Rattle.rv_races.specs.Races.{Run}
use Rattle.rv_report.specs.Exhibit.{IsOther}
use Rattle.rv_report.specs.OfPause.{IsOfPause}

-- Where an exhibit names a place beside the pause, the second access is the one that was made there.
abbrev pub SecondIsExhibited : Type 0
SecondIsExhibited =
    (run : Run) (told : Ending) (place : ℕ) → IsOfPause run.start run.entries told → IsOther run.start run.entries told told.verdict place → seen_at run.start run.entries place ≡ Some (second run told)
