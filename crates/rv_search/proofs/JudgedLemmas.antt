-- What endings are judged by, in a run whose parts are known by other names.
use Rattle.std.proofs.Common.{◌≡◌, ℕ, List, map, sym}
use Rattle.rv_collide.specs.declared.ending.Ending.{Ending}
use Rattle.rv_collide.specs.declared.entry.Entry.{Entry}
use Rattle.rv_elf.specs.Contents.{Contents}
use Rattle.rv_explain.specs.Judged.{judged, run_behind}
use Rattle.rv_hart.specs.State.{State}
use Rattle.rv_races.specs.declared.judged.Judged.{Judged}

pub judged_of : (image other : Contents) (a b : State) (steps : List ℕ) (entries others : List Entry) (ended later : List Ending) (found : List Judged) → image ≡ other → a ≡ b → entries ≡ others → ended ≡ later
    → found ≡ map (judged (run_behind image a steps entries)) ended → found ≡ map (judged (run_behind other b steps others)) later
judged_of image other a b steps entries others ended later found images same entries_are ended_are is = rw (sym images, sym same, sym entries_are, sym ended_are) is
