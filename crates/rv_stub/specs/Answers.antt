-- What is answered to a packet, and how the talk stands after it.
use Rattle.std.specs.Prelude.{◌≡◌, ℕ, ◌+◌, ◌⊎◌, ◌||◌, Bool, not, true, false, nat_le, is_some, IsTrue, if◌then◌else◌, Option, Some, None, option_and_then, List, [], ◌∷◌, ◌++◌, codes, length, slice_get}
use Rattle.std.specs.List.{list_all}
use Rattle.std.specs.Option.{option_map_or}
use Rattle.std.specs.Fmt.{decimal}
use Rattle.rv_collide.specs.Grammar.{entry_line}
use Rattle.rv_collide.specs.Texts.{ending_line}
use Rattle.rv_collide.specs.declared.ending.Ending.{Ending}
use Rattle.rv_collide.specs.declared.entry.Entry.{Entry}
use Rattle.rv_debug.specs.Placed.{moved, state}
use Rattle.rv_gdb.specs.Chosen.{aim_of, choice, chooses, stopped}
use Rattle.rv_gdb.specs.Points.{with_point, without_point}
use Rattle.rv_gdb.specs.Replies.{known_reply, refusal_text, state_reply}
use Rattle.rv_gdb.specs.Shown.{digits_of}
use Rattle.rv_gdb.specs.Stops.{stop_text, thread_of, trap}
use Rattle.rv_gdb.specs.declared.action.Action.{Action}
use Rattle.rv_gdb.specs.declared.fields.Id.{Id}
use Rattle.rv_gdb.specs.declared.monitor.Order.{Order}
use Rattle.rv_gdb.specs.declared.monitor.Order.TheVariants as order
use Rattle.rv_gdb.specs.declared.packet.Request.{Request}
use Rattle.rv_gdb.specs.declared.packet.Request.TheVariants as asks
use Rattle.rv_gdb.specs.declared.packet.Move.{Move}
use Rattle.rv_gdb.specs.declared.point.Point.{Point}
use Rattle.rv_gdb.specs.declared.replies.Refusal.{Refusal}
use Rattle.rv_gdb.specs.declared.replies.Refusal.TheVariants.{Malformed, NoSuch, NoMemory}
use Rattle.rv_gdb.specs.declared.stop.Stop.{Stop}
use Rattle.rv_gdb.specs.declared.stop.Why.TheVariants.{Stands}
use Rattle.rv_hart.specs.State.{State}
use Rattle.rv_hart.specs.declared.machine.TheConstants.{MOST_HARTS}
use Rattle.rv_retrace.specs.Going.{stop_at}
use Rattle.rv_stub.specs.Resumed.{remembered, stop_of}
use Rattle.rv_stub.specs.Resumption.{of_actions, of_move}
use Rattle.rv_stub.specs.declared.resumption.Resumption.{Resumption}
use Rattle.rv_stub.specs.Met.{endings_of, met_by}
use Rattle.rv_stub.specs.Paused.{standing_text}
use Rattle.rv_stub.specs.Standing.{Standing, are_there}
use Rattle.rv_stub.specs.declared.state.met.Met.{Met}

-- the text of an answer, and how the talk stands after it
pub record Answer : Type 0 where
  pub text : List ℕ
  pub after : Standing

-- the talk stands as before
abbrev pub says : Standing → List ℕ → Answer
says t text = record { text = text; after = t }

abbrev pub refuses : Standing → Refusal → Answer
refuses t why = says t (refusal_text why)

-- it is done, and the talk stands so
abbrev pub does : Standing → Answer
does t = record { text = codes "OK"; after = t }

-- the answer that the state at the place gives; there is one at each place
abbrev pub by_state : Standing → (State → Answer) → Answer
by_state t told = option_map_or told (state t.run) (says t [])

-- ---- threads

-- a thread is chosen
abbrev pub choosing : Standing → Request → Answer
choosing t request =
    by_state t (λ (s : State). option_map_or (λ chosen. does (record t { chosen = chosen })) (choice (length s.harts) t.chosen request) (refuses t NoSuch))

-- in hexadecimal digits, how a hart stands
abbrev pub telling_hart : Standing → State → ℕ → Answer
telling_hart t s h = option_map_or (λ hart. says t (digits_of (standing_text t.run h hart))) (slice_get s.harts h) (refuses t NoSuch)

-- one thread is asked for: any is none
abbrev pub telling : Standing → Id → Answer
telling t id =
    by_state t (λ (s : State). option_map_or (telling_hart t s) (option_and_then (λ hart. hart) (aim_of (length s.harts) id)) (refuses t NoSuch))

-- ---- points

abbrev pub setting : Standing → Point → Answer
setting t point = option_map_or (λ points. does (record t { points = points })) (with_point t.points point) (refuses t NoMemory)

abbrev pub clearing : Standing → Point → Answer
clearing t point = does (record t { points = without_point t.points point })

-- ---- going on

-- `?`: a stop at the place, of the focus, which is chosen by it
abbrev pub standing_still : Standing → Answer
standing_still t = record {
  text = stop_text (stop_at t.run.place t.chosen.focus Stands trap);
  after = record t { chosen = stopped t.chosen t.chosen.focus };
}

-- the run goes on to where it stops: that is the place, and the hart is chosen
abbrev pub stopping : Standing → Resumption → Stop → Answer
stopping t r stop = record {
  text = stop_text stop;
  after = record {
    run = moved t.run stop.place;
    chosen = stopped t.chosen stop.hart;
    points = t.points;
    passed = remembered t.run t.points r t.passed;
  };
}

abbrev pub resuming : Standing → Resumption → Answer
resuming t r = stopping t r (stop_of t.run t.points r t.passed t.chosen.focus)

-- the threads of all actions are there
abbrev pub name_harts : ℕ → List Action → Bool
name_harts harts actions = list_all (λ (action : Action). is_some (aim_of harts action.id)) actions

-- `vCont;..`
abbrev pub acting : Standing → List Action → Answer
acting t actions =
    by_state t (λ (s : State). if name_harts (length s.harts) actions then resuming t (of_actions actions) else refuses t NoSuch)

-- `s`, `c`, `bs` and `bc`
abbrev pub going : Standing → Move → Answer
going t step = if are_there MOST_HARTS t.chosen then resuming t (of_move t.chosen step) else refuses t NoSuch

-- ---- the commands that a user gives

-- `, next ENTRY`, or that there is none
abbrev pub next_text : Option Entry → List ℕ
next_text (Some entry) = codes ", next " ++ (entry_line entry ++ 10 ∷ [])
next_text None = codes ", the end" ++ 10 ∷ []

-- `at N of COUNT`, and what is next
abbrev pub where_text : List Entry → ℕ → List ℕ
where_text entries place = codes "at " ++ decimal place ++ codes " of " ++ decimal (length entries) ++ next_text (slice_get entries place)

unfoldable pub help_text : List ℕ
help_text =
    codes "where      the place in the record, and the entry that is next\n" ++ (codes "entry N    to place N\n"
    ++ (codes "ending N   to the pause of ending N\n" ++ (codes "hit N      to before the access that met the pause of ending N\n"
    ++ (codes "help       this text\n" ++ (codes "After `entry`, `ending` and `hit` say\n"
    ++ (codes "    maintenance flush register-cache\n    maintenance flush dcache\n"
    ++ (codes "since GDB shows what it knew before, and `thread T` where T is told.\n"
    ++ codes "With `set scheduler-locking step` steps follow one thread.\n")))))))

abbrev pub malformed_text : List ℕ
malformed_text = codes "fault 0 Command\n"

abbrev pub no_place_text : List ℕ
no_place_text = codes "fault 1 NoPlace\n"

abbrev pub no_ending_text : List ℕ
no_ending_text = codes "fault 6 NoEnding\n"

abbrev pub not_report_text : List ℕ
not_report_text = codes "fault 7 NotReport: no access met this pause, to which `monitor ending` goes\n"

abbrev pub no_memory_text : List ℕ
no_memory_text = codes "fault 5 NoMemory\n"

-- in hexadecimal digits
abbrev pub tells : Standing → List ℕ → Answer
tells t text = says t (digits_of text)

-- the run goes to a place, and what is remembered is forgotten
abbrev pub placing : Standing → ℕ → List ℕ → Answer
placing t place text = record { text = digits_of text; after = record t { run = moved t.run place; passed = None } }

-- `entry N`
abbrev pub going_to : Standing → ℕ → Answer
going_to t place =
    if nat_le place (length t.run.entries) then placing t place (where_text t.run.entries place) else tells t no_place_text

-- a thread that a user may want to choose: GDB does not learn of another
abbrev pub thread_line : ℕ → List ℕ
thread_line hart = codes "thread " ++ decimal (thread_of hart) ++ 10 ∷ []

-- `ending N`: its line, and to the place after its pause
abbrev pub going_to_pause : Standing → ℕ → Ending → Answer
going_to_pause t n told =
    placing t (told.paused_at + 1) (ending_line n told ++ 10 ∷ [] ++ where_text t.run.entries (told.paused_at + 1) ++ thread_line told.hart)

abbrev pub going_to_ending : Standing → ℕ → Answer
going_to_ending t n = option_map_or (going_to_pause t n) (slice_get (endings_of t.run) n) (tells t no_ending_text)

-- `hit N`: to before the entry of the access that met the pause
abbrev pub going_to_met : Standing → Met → Answer
going_to_met t met = placing t met.place (where_text t.run.entries met.place ++ thread_line met.hart)

abbrev pub going_to_hit : Standing → ℕ → Answer
going_to_hit t n =
    option_map_or (λ told. option_map_or (going_to_met t) (met_by t.run told) (tells t not_report_text)) (slice_get (endings_of t.run) n) (tells t no_ending_text)

abbrev pub ordered : Standing → Option Order → Answer
ordered t None = tells t malformed_text
ordered t (Some order.Where) = tells t (where_text t.run.entries t.run.place)
ordered t (Some order.Help) = tells t help_text
ordered t (Some (order.Entry place)) = going_to t place
ordered t (Some (order.Ending n)) = going_to_ending t n
ordered t (Some (order.Hit n)) = going_to_hit t n

-- ---- all requests

-- a question about the state
abbrev pub showing : Standing → Request → State → Answer
showing t request s =
    if are_there (length s.harts) t.chosen then says t (option_map_or (λ text. text) (state_reply s t.chosen request) []) else refuses t NoSuch

-- the talk forgets what it remembers of steps that were passed
abbrev pub forgetting : Answer → Answer
forgetting answer = record { text = answer.text; after = record answer.after { passed = None } }

abbrev pub asked : Standing → Request → Answer
asked t asks.Why = standing_still t
asked t (asks.ExtraInfo id) = telling t id
asked t (asks.SetPoint point) = setting t point
asked t (asks.ClearPoint point) = clearing t point
asked t (asks.Act actions) = acting t actions
asked t (asks.Go step) = going t step
asked t (asks.Monitor order) = ordered t order
asked t asks.FirstThreads = forgetting (by_state t (showing t asks.FirstThreads))
asked t request = by_state t (showing t request)

abbrev pub answered : Standing → Request → Answer
answered t request =
    option_map_or (says t) (known_reply request) (if chooses request then choosing t request else asked t request)

-- ---- want of memory

abbrev pub is_order : Request → Bool
is_order (asks.Monitor order) = true
is_order request = false

-- What is answered where memory is not found. A user's commands tell it in their own words.
abbrev pub no_memory : Bool → List ℕ
no_memory is_order = if is_order then digits_of no_memory_text else refusal_text NoMemory

abbrev pub is_plain : Request → Bool
is_plain asks.Why = true
is_plain (asks.ClearPoint point) = true
is_plain request = false

-- whether memory has to be found for the answer
abbrev pub takes_memory : Request → Bool
takes_memory request = not (is_some (known_reply request) || (chooses request || is_plain request))

-- The answer to a packet: its own; or, where memory has to be found for that, that there is none, and nothing is
-- changed.
abbrev pub IsAnswer : Standing → Option Request → Answer → Type 0
IsAnswer t None answer = answer ≡ refuses t Malformed
IsAnswer t (Some request) answer =
    (answer ≡ answered t request) ⊎ (IsTrue (takes_memory request) × (answer ≡ says t (no_memory (is_order request))))
