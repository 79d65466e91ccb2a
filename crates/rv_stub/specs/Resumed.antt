-- Where a resumed run stops, and what is remembered of steps that were passed.
use Rattle.std.specs.Prelude.{ℕ, ◌<◌, ◌≤◌, ◌==◌, ◌&&◌, Bool, true, false, if◌then◌else◌, Option, Some, None, unwrap_or, List, length, position, slice_set}
use Rattle.std.specs.Option.{option_or}
use Rattle.rv_debug.specs.Placed.{Placed}
use Rattle.rv_gdb.specs.Stops.{trap}
use Rattle.rv_gdb.specs.declared.point.Point.{Point}
use Rattle.rv_gdb.specs.declared.stop.Stop.{Stop}
use Rattle.rv_gdb.specs.declared.stop.Why.{Why}
use Rattle.rv_gdb.specs.declared.stop.Why.TheVariants.{Begin, End, Stands}
use Rattle.rv_hart.specs.declared.machine.TheConstants.{MOST_HARTS}
use Rattle.rv_retrace.specs.Going.{first_stop, last_stop, stop_at}
use Rattle.rv_stub.specs.Resumption.{no_hart}
use Rattle.rv_retrace.specs.declared.aims.Aims.{Aims}
use Rattle.rv_stub.specs.declared.resume.Passed.{Passed}
use Rattle.rv_stub.specs.declared.resumption.Resumption.{Resumption}
use Rattle.rv_stub.specs.declared.resumption.Way.{Way}
use Rattle.rv_stub.specs.declared.resumption.Way.TheVariants.{Forwards, Back}

-- ---- what a lone step passed

-- To get a hart off a breakpoint GDB lifts the breakpoint and lets that hart step alone. The record cannot hold the other
-- harts back, so what they meet meanwhile is told late: by the next resumption of all of the same way, which looks again
-- from where the lone steps began. Steps of the hart that went alone are left out there, and no hart is to step.

abbrev pub is_same_way : Way → Way → Bool
is_same_way Forwards Forwards = true
is_same_way Forwards Back = false
is_same_way Back Forwards = false
is_same_way Back Back = true

abbrev pub left_out : Aims → ℕ → Aims
left_out aims hart = record { among = slice_set aims.among hart false; stepping = no_hart }

-- steps forwards began at a place before, and steps back at one behind
abbrev pub IsBefore : ℕ → Passed → Type 0
IsBefore place passed = (passed.hart < MOST_HARTS) × (passed.from ≤ place)

abbrev pub IsBehind : Placed → Passed → Type 0
IsBehind p passed = (passed.hart < MOST_HARTS) × (p.place ≤ passed.from) × (passed.from ≤ length p.entries)

abbrev pub IsPassed : Way → Placed → Passed → Type 0
IsPassed Forwards p passed = IsBefore p.place passed
IsPassed Back p passed = IsBehind p passed

-- what is to be told of what was passed, if anything is
abbrev pub told_late : Resumption → Option Passed → Option Passed
told_late r None = None
told_late r (Some passed) = if r.of_all && is_same_way r.way passed.way then Some passed else None

-- ---- the search

-- the stretch that was passed comes first, and then the rest of the record
abbrev pub found_forwards : Placed → List Point → Aims → Option Passed → Option Stop
found_forwards p points aims None = first_stop p points aims p.place (length p.entries)
found_forwards p points aims (Some passed) =
    option_or (first_stop p points (left_out aims passed.hart) passed.from p.place) (first_stop p points aims p.place (length p.entries))

abbrev pub found_back : Placed → List Point → Aims → Option Passed → Option Stop
found_back p points aims None = last_stop p points aims 0 p.place
found_back p points aims (Some passed) =
    option_or (last_stop p points (left_out aims passed.hart) p.place passed.from) (last_stop p points aims 0 p.place)

abbrev pub found_by : Way → Placed → List Point → Aims → Option Passed → Option Stop
found_by Forwards p points aims passed = found_forwards p points aims passed
found_by Back p points aims passed = found_back p points aims passed

abbrev pub found : Placed → List Point → Resumption → Option Passed → Option Stop
found p points r passed = found_by r.way p points r.aims (told_late r passed)

-- ---- where none is found

abbrev pub first_of : List Bool → Option ℕ
first_of harts = position (λ is. is) harts

-- the end of the record that a way leads to
abbrev pub end_of : Way → Placed → ℕ
end_of Forwards p = length p.entries
end_of Back p = 0

abbrev pub why_of : Way → Why
why_of Forwards = End
why_of Back = Begin

-- the hart that is told of at the end: the focus, or where the run does not go on for all the least that it goes on for
abbrev pub told_at_end : Resumption → ℕ → ℕ
told_at_end r focus = if r.of_all then focus else unwrap_or (first_of r.aims.among) focus

-- The record ends. But where some harts are to step and make no step any more, the run stays: GDB would hang at its next
-- command, were it told of the end here.
abbrev pub otherwise : Placed → Resumption → ℕ → Option ℕ → Stop
otherwise p r focus None = stop_at (end_of r.way p) (told_at_end r focus) (why_of r.way) trap
otherwise p r focus (Some hart) =
    if r.of_all then stop_at (end_of r.way p) focus (why_of r.way) trap else stop_at p.place hart Stands 0

-- where a resumed run stops
unfoldable pub stop_of : Placed → List Point → Resumption → Option Passed → ℕ → Stop
stop_of p points r passed focus = unwrap_or (found p points r passed) (otherwise p r focus (first_of r.aims.stepping))

-- ---- what is remembered

-- the lone steps go on: they began where those before them did
abbrev pub goes_on : Way → ℕ → Passed → Bool
goes_on way hart passed = is_same_way way passed.way && passed.hart == hart

abbrev pub began : ℕ → Way → ℕ → Option Passed → ℕ
began place way hart None = place
began place way hart (Some passed) = if goes_on way hart passed then passed.from else place

-- what is remembered of a resumption that began at a place, by the stop that it found
abbrev pub remembered_of : ℕ → Resumption → Option Stop → Option Passed → Option Passed
remembered_of place r None passed = None
remembered_of place r (Some stop) passed =
    if r.of_all then None else Some (record { way = r.way; hart = stop.hart; from = began place r.way stop.hart passed })

-- a resumption that is not of all and finds a step is remembered, and no other
unfoldable pub remembered : Placed → List Point → Resumption → Option Passed → Option Passed
remembered p points r passed = remembered_of p.place r (found p points r passed) passed
