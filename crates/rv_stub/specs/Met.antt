-- The access that met the pause of an ending.
use Rattle.std.specs.Prelude.{ℕ, ◌+◌, ◌-◌, if◌then◌else◌, Option, Some, None, option_and_then, option_map, List}
use Rattle.rv_collide.specs.Entries.{stepped_at}
use Rattle.rv_collide.specs.Verdict.{endings}
use Rattle.rv_collide.specs.declared.ending.Ending.{Ending}
use Rattle.rv_collide.specs.declared.ending.Verdict.{Verdict}
use Rattle.rv_collide.specs.declared.ending.Verdict.TheVariants.{Hit, Changed, Quiet}
use Rattle.rv_debug.specs.Placed.{Placed, setting}
use Rattle.rv_report.specs.Exhibit.{stores_at}
use Rattle.rv_retrace.specs.Going.{last_in}
use Rattle.rv_stub.specs.declared.state.met.Met.{Met}

abbrev pub endings_of : Placed → List Ending
endings_of p = endings (setting p).start p.entries

-- the place, where its step writes over the paused access
abbrev pub store_at : Placed → Ending → ℕ → Option ℕ
store_at p told place = if stores_at (setting p).start p.entries told.access place then Some place else None

-- the last place within the pause where a step did
abbrev pub last_store : Placed → Ending → Option ℕ
last_store p told = last_in (store_at p told) (told.paused_at + 1) (told.resumed_at - (told.paused_at + 1))

-- The place of the access that a report names beside the paused one: of a Hit the one that was seen, of a Changed the
-- last that writes the bytes. A Quiet ending is no report.
abbrev pub place_by : Placed → Ending → Verdict → Option ℕ
place_by p told (Hit seen) = Some seen.place
place_by p told Changed = last_store p told
place_by p told Quiet = None

abbrev pub met_at : Placed → ℕ → Option Met
met_at p place = option_map (λ hart. record { place = place; hart = hart }) (stepped_at p.entries place)

-- its place and its hart
abbrev pub met_by : Placed → Ending → Option Met
met_by p told = option_and_then (met_at p) (place_by p told told.verdict)
