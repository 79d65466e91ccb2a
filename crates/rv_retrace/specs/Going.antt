-- Where a recorded run stops, forwards and backwards.
use Rattle.std.specs.Prelude.{ℕ, ◌+◌, ◌-◌, ◌||◌, Bool, false, zero, suc, if◌then◌else◌, Option, Some, None, option_and_then, option_map, unwrap_or, List, slice_get}
use Rattle.std.specs.Option.{option_or}
use Rattle.rv_collide.specs.Entries.{stepped_at}
use Rattle.rv_collide.specs.StateAt.{state_at}
use Rattle.rv_debug.specs.Placed.{Placed, setting}
use Rattle.rv_gdb.specs.Points.{breaks, seen}
use Rattle.rv_gdb.specs.Search.{first_in}
use Rattle.rv_gdb.specs.Stops.{signal_of, trap}
use Rattle.rv_gdb.specs.declared.point.Point.{Point}
use Rattle.rv_gdb.specs.declared.stop.Stop.{Stop}
use Rattle.rv_gdb.specs.declared.stop.Why.{Why}
use Rattle.rv_gdb.specs.declared.stop.Why.TheVariants.{Stands, Watched}
use Rattle.rv_hart.specs.NextAccess.{next_access}
use Rattle.rv_hart.specs.State.{State}
use Rattle.rv_hart.specs.declared.access.Access.{Access}
use Rattle.rv_hart.specs.declared.hart.Hart.{Hart}
use Rattle.rv_hart.specs.declared.hart.Status.{Status}
use Rattle.rv_hart.specs.declared.hart.Status.TheVariants.{Running, Exited, Stopped}
use Rattle.rv_retrace.specs.declared.aims.Aims.{Aims}

-- a hart is one of some
abbrev pub is_one : List Bool → ℕ → Bool
is_one harts h = unwrap_or (slice_get harts h) false

abbrev pub stop_at : ℕ → ℕ → Why → ℕ → Stop
stop_at place hart why signal = record { place = place; hart = hart; why = why; signal = signal }

-- ---- what stops the run at a step of a hart

-- a point breaks where the instruction is about to be made
abbrev pub broken : List Point → ℕ → ℕ → Hart → Option Stop
broken points place h hart = if breaks points hart.pc then Some (stop_at place h Stands trap) else None

-- a point sees the step's access
abbrev pub watched : List Point → ℕ → ℕ → Option Access → Option Stop
watched points place h access =
    option_map (λ sight. stop_at place h (Watched sight) trap) (option_and_then (seen points) access)

-- The step is not made yet: it breaks, or else it is seen. GDB lets a hart make the access itself, and compares.
abbrev pub before_step : List Point → ℕ → ℕ → State → Option Stop
before_step points place h s =
    option_and_then (λ hart. option_or (broken points place h hart) (watched points place h (next_access s h))) (slice_get s.harts h)

-- How a hart stands after its step at a place: a stop of the hart stops the run; else the run stops if the hart steps.
abbrev pub after_status : Bool → ℕ → ℕ → Status → Option Stop
after_status steps place h Running = if steps then Some (stop_at (place + 1) h Stands trap) else None
after_status steps place h (Exited code) = if steps then Some (stop_at (place + 1) h Stands 0) else None
after_status steps place h (Stopped cause) = Some (stop_at (place + 1) h Stands (signal_of cause))

abbrev pub after_step : Bool → ℕ → ℕ → State → Option Stop
after_step steps place h t = option_and_then (λ (hart : Hart). after_status steps place h hart.status) (slice_get t.harts h)

-- The step is about to be taken back: it is seen, or else it breaks or its hart steps.
abbrev pub taken_back : List Point → Bool → ℕ → ℕ → State → Option Stop
taken_back points steps place h s =
    option_and_then (λ hart. option_or (watched points (place + 1) h (next_access s h)) (if breaks points hart.pc || steps then Some (stop_at place h Stands trap) else None)) (slice_get s.harts h)

-- ---- at a place of a record

-- the hart that makes a step there, if it may stop the run
abbrev pub aimed_at : Placed → Aims → ℕ → Option ℕ
aimed_at p aims place = option_and_then (λ h. if is_one aims.among h then Some h else None) (stepped_at p.entries place)

abbrev pub state_of : Placed → ℕ → Option State
state_of p place = state_at (setting p).start p.entries place

-- where the run stops at the step of a hart there, forwards
abbrev pub forward_stop : Placed → List Point → Aims → ℕ → ℕ → Option Stop
forward_stop p points aims place h =
    option_and_then (λ s. option_or (before_step points place h s) (option_and_then (after_step (is_one aims.stepping h) place h) (state_of p (place + 1)))) (state_of p place)

-- and backwards
abbrev pub back_stop : Placed → List Point → Aims → ℕ → ℕ → Option Stop
back_stop p points aims place h = option_and_then (taken_back points (is_one aims.stepping h) place h) (state_of p place)

unfoldable pub stop_forwards : Placed → List Point → Aims → ℕ → Option Stop
stop_forwards p points aims place = option_and_then (forward_stop p points aims place) (aimed_at p aims place)

unfoldable pub stop_back : Placed → List Point → Aims → ℕ → Option Stop
stop_back p points aims place = option_and_then (back_stop p points aims place) (aimed_at p aims place)

-- ---- over a record

-- the last of what is found at so many places from one on
abbrev pub last_in : {A : Type 0} → (ℕ → Option A) → ℕ → ℕ → Option A
last_in at from zero = None
last_in at from (suc count) = option_or (at (from + count)) (last_in at from count)

-- the first stop from a place on, and before another
abbrev pub first_stop : Placed → List Point → Aims → ℕ → ℕ → Option Stop
first_stop p points aims from to = first_in (stop_forwards p points aims) from (to - from)

-- the last stop from a place on, and before another
abbrev pub last_stop : Placed → List Point → Aims → ℕ → ℕ → Option Stop
last_stop p points aims from to = last_in (stop_back p points aims) from (to - from)
