-- What a packet makes of a run: the way, the harts that may stop it, those of them that step, and whether it is of all.
use Rattle.std.specs.Prelude.{ℕ, ◌+◌, ◌==◌, Bool, true, false, is_some, if◌then◌else◌, Option, unwrap_or, List, map, find, replicate, slice_set}
use Rattle.std.specs.List.{list_any, range_with_len}
use Rattle.std.specs.Option.{option_map_or}
use Rattle.rv_gdb.specs.declared.action.Action.{Action}
use Rattle.rv_gdb.specs.declared.chosen.Chosen.{Chosen}
use Rattle.rv_gdb.specs.declared.fields.Id.{Id}
use Rattle.rv_gdb.specs.declared.fields.Id.TheVariants.{Any, Thread}
use Rattle.rv_gdb.specs.declared.packet.Move.{Move}
use Rattle.rv_gdb.specs.declared.packet.Move.TheVariants.{Step, Continue, StepBack, ContinueBack}
use Rattle.rv_hart.specs.declared.machine.TheConstants.{MOST_HARTS}
use Rattle.rv_stub.specs.declared.resumption.Resumption.{Resumption}
use Rattle.rv_stub.specs.declared.resumption.Way.{Way}
use Rattle.rv_stub.specs.declared.resumption.Way.TheVariants.{Forwards, Back}

-- the harts of which something holds
abbrev pub harts_that : (ℕ → Bool) → List Bool
harts_that is = map is (range_with_len 0 MOST_HARTS)

abbrev pub every_hart : List Bool
every_hart = replicate MOST_HARTS true

abbrev pub no_hart : List Bool
no_hart = replicate MOST_HARTS false

abbrev pub hart_alone : ℕ → List Bool
hart_alone hart = slice_set no_hart hart true

-- ---- `s`, `c`, `bs` and `bc`

abbrev pub way_of : Move → Way
way_of Step = Forwards
way_of Continue = Forwards
way_of StepBack = Back
way_of ContinueBack = Back

abbrev pub does_step : Move → Bool
does_step Step = true
does_step Continue = false
does_step StepBack = true
does_step ContinueBack = false

-- The hart that was chosen to go on alone, or else all. GDB does not say which thread steps where none was chosen: it is
-- the focus.
abbrev pub of_move : Chosen → Move → Resumption
of_move chosen step = record {
  way = way_of step;
  aims = record {
    among = option_map_or hart_alone chosen.going every_hart;
    stepping = (if does_step step then hart_alone (unwrap_or chosen.going chosen.focus) else no_hart);
  };
  of_all = (if is_some chosen.going then false else true);
}

-- ---- `vCont;..`

abbrev pub is_any : Id → Bool
is_any Any = true
is_any (Thread thread) = false

-- thread t is hart t - 1
abbrev pub names : ℕ → Id → Bool
names hart Any = true
names hart (Thread thread) = thread == hart + 1

-- of each hart the first action that names it holds
abbrev pub action_of : List Action → ℕ → Option Action
action_of actions hart = find (λ (action : Action). names hart action.id) actions

abbrev pub has_action : List Action → ℕ → Bool
has_action actions hart = is_some (action_of actions hart)

abbrev pub steps_by : List Action → ℕ → Bool
steps_by actions hart = option_map_or (λ (action : Action). action.steps) (action_of actions hart) false

abbrev pub of_actions : List Action → Resumption
of_actions actions = record {
  way = Forwards;
  aims = record { among = harts_that (has_action actions); stepping = harts_that (steps_by actions) };
  of_all = list_any (λ (action : Action). is_any action.id) actions;
}
