-- What a report counts as, where people read it.
use Rattle.std.specs.Prelude.{ℕ, if◌then◌else◌, List, codes}
use Rattle.rv_collide.specs.declared.ending.Ending.{Ending}
use Rattle.rv_collide.specs.declared.ending.Verdict.{Verdict}
use Rattle.rv_collide.specs.declared.ending.Verdict.TheVariants.{Hit, Changed, Quiet}
use Rattle.rv_elf.specs.Contents.{Contents}
use Rattle.rv_prune.specs.Class.{class}
use Rattle.rv_prune.specs.Ordered.{is_atomic, is_ordered}
use Rattle.rv_prune.specs.declared.class.Class.{Class}
use Rattle.rv_prune.specs.declared.class.Class.TheVariants as prune
use Rattle.rv_races.specs.declared.classes.RaceClass.{RaceClass}
use Rattle.rv_races.specs.declared.classes.RaceClass.TheVariants.{Kept, Counter, Unwatched, Flag, Ordered, Atomic, Named}
use Rattle.rv_races.specs.declared.judged.Judged.{Judged}

abbrev pub class_as_told : Contents → Ending → Class → RaceClass
class_as_told image told prune.Named = Named
class_as_told image told prune.Flag = Flag
class_as_told image told prune.Counter = Counter
class_as_told image told prune.Kept = if is_ordered image told then Ordered else (if is_atomic image told then Atomic else Kept)

-- what may be a bug, where no data breakpoint watched the pause
abbrev pub unwatched : RaceClass → RaceClass
unwatched Kept = Unwatched
unwatched Counter = Unwatched
unwatched class = class

abbrev pub class_by : Verdict → RaceClass → RaceClass
class_by (Hit seen) class = class
class_by Changed class = unwatched class
class_by Quiet class = class

-- its class by an ending's table, or ordered or atomic where that is Kept
abbrev pub class_as : Contents → List (ℕ × ℕ) → Ending → RaceClass
class_as image ranges told = class_as_told image told (class image told ranges)

-- What a report counts as. A Changed one counts as the hit of its last store would; where that may be a bug it is unwatched.
unfoldable pub class_of : Contents → List (ℕ × ℕ) → Judged → RaceClass
class_of image ranges judged =
    class_by judged.ending.verdict (class_as image ranges (record judged.ending { verdict = judged.verdict }))

-- the place of a class in the order kept, counter, unwatched, flag, ordered, atomic and named: a race that has reports of two has the class of the first
abbrev pub rank : RaceClass → ℕ
rank Kept = 0
rank Counter = 1
rank Unwatched = 2
rank Flag = 3
rank Ordered = 4
rank Atomic = 5
rank Named = 6

-- the word of a class
abbrev pub class_word : RaceClass → List ℕ
class_word Kept = codes "kept"
class_word Counter = codes "counter"
class_word Unwatched = codes "unwatched"
class_word Flag = codes "flag"
class_word Ordered = codes "ordered"
class_word Atomic = codes "atomic"
class_word Named = codes "named"
