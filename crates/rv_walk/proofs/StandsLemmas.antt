-- Where a walk stands.
use Rattle.std.proofs.Common.{◌≡◌, ℕ, zero, suc, ◌<◌, Bool, true, false, List, [], ◌∷◌, length, Option, Some, None, sym, subst, ap, ◌∙◌, arith}
use Rattle.std.specs.Prelude.{IfNone, IfOk, IfSome, IsTrue, ◌↔◌, Err, Ok, Result, is_some, not, slice_get}
use Rattle.rv_memory.specs.declared.store.NoMemory.{NoMemory}
use Rattle.rv_stuck.specs.StuckEnd.{IsStuckEnd}
use Rattle.rv_stuck.specs.declared.stuck.StuckEnd.{StuckEnd}
use Rattle.rv_waits.specs.Touches.{Loads}
use Rattle.rv_walk.specs.Rounds.{IsPolled}
use Rattle.rv_hart.specs.Refusals.{is_running_hart}
use Rattle.rv_hart.specs.Run.{run}
use Rattle.rv_hart.specs.declared.hart.Hart.{Hart}
use Rattle.rv_hart.specs.State.{State}
use Rattle.rv_waits.specs.Round.{IsRound, Waits}
use Rattle.rv_waits.specs.Turn.{AllMayRest, IsNextFrom}
use Rattle.rv_waits.specs.declared.round.Round.{Round}
use Rattle.rv_walk.proofs.EntriesLemmas.{state_now}
use Rattle.rv_walk.specs.Walked.{Walked, IsAt}

pub at_run : (walk : Walked) (s : State) → run walk.start walk.harts ≡ Some s → IsAt walk s
unfolding IsAt
at_run walk s reached = state_now walk.start walk.harts ∙ reached

pub run_at : (walk : Walked) (s : State) → IsAt walk s → run walk.start walk.harts ≡ Some s
unfolding IsAt
run_at walk s at = sym (state_now walk.start walk.harts) ∙ at

-- a walk stands in one state
pub one_state : (walk : Walked) (s t : State) → IsAt walk s → IsAt walk t → s ≡ t
unfolding IsAt
one_state walk s t at also = let e : Some s ≡ Some t = sym at ∙ also in cc

pub stands : (own walk : Walked) (t s : State) → own ≡ walk → run own.start own.harts ≡ Some t → IsAt walk s → t ≡ s
stands own walk t s view reached at =
    let e : run own.start own.harts ≡ Some s = subst (λ (v : Walked). run v.start v.harts ≡ Some s) (sym view) (run_at walk s at) in
    let f : Some t ≡ Some s = sym reached ∙ e in
    cc

-- what a look at a hart's round says
pub waits_seen : (s : State) (h : ℕ) (seen : Option Round) (none : Bool) → is_some seen ≡ not none → none ≡ false → IfSome seen (λ (round : Round). IsRound s h round.steps) → Waits s h
waits_seen s h None none is unset round = let e : false ≡ true = is ∙ ap not unset in cc
waits_seen s h (Some seen) none is unset round = (seen.steps, round)

-- and the same of whatever state the walk is said to stand in
pub polled_seen : (state : State) (walk : Walked) (h : ℕ) (seen : Option Round) → IfSome seen (λ (round : Round). IsRound state h round.steps) → IfSome seen (λ (round : Round). IsTrue round.polls ↔ Loads h round.steps state) → ((s : State) → IsAt walk s → state ≡ s) → IfSome seen (λ (round : Round). (s : State) → IsAt walk s → IsPolled s h round)
polled_seen state walk h None round polls here = tt
polled_seen state walk h (Some seen) round polls here = λ s at.
    subst (λ (u : State). IsPolled u h seen) (here s at) (record { is_round = round; polls = polls })

pub runs_within : (harts : List Hart) (h : ℕ) → is_running_hart (slice_get harts h) ≡ true → h < length harts
runs_within [] h is = let e : false ≡ true = is in cc
runs_within (x ∷ xs) zero is = omega arith
runs_within (x ∷ xs) (suc h) is = let e : h < length xs = runs_within xs h is in omega arith

-- what is known of a stuck end in a state holds in each that is the same
pub stuck_there : (told : Result (Option StuckEnd) NoMemory) (state : State) (At : State → Type 0) → ((s : State) → At s → state ≡ s)
    → IfOk told (λ end. IfSome end (λ it. IsStuckEnd state it)) → IfOk told (λ end. IfSome end (λ it. (s : State) → At s → IsStuckEnd s it))
stuck_there (Err fault) state At same is = tt
stuck_there (Ok None) state At same is = tt
stuck_there (Ok (Some it)) state At same is = λ s at. subst (λ (u : State). IsStuckEnd u it) (same s at) is

-- so does whose turn is next
pub next_there : (told : Option ℕ) (state : State) (from : ℕ) (At : State → Type 0) → ((s : State) → At s → state ≡ s) → IfSome told (IsNextFrom state from) → IfSome told (λ h. (s : State) → At s → IsNextFrom s from h)
next_there None state from At same is = tt
next_there (Some h) state from At same is = λ s at. subst (λ (u : State). IsNextFrom u from h) (same s at) is

pub none_there : (told : Option ℕ) (state : State) (At : State → Type 0) → ((s : State) → At s → state ≡ s) → IfNone told (AllMayRest state) → IfNone told ((s : State) → At s → AllMayRest s)
none_there None state At same is = λ s at. subst AllMayRest (same s at) is
none_there (Some h) state At same is = tt
