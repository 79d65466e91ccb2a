-- What a step of `words` leaves of the room for the output, and why it is refused.
use Rattle.std.proofs.Common.{◌≡◌, ℕ, ◌+◌, ◌≤◌, ◌<◌, true, false, Some, None, Result, Ok, Err, List, length, get_or, drop, nat_lt, ap, refl, sym, suc, ◌∙◌, arith}
use Rattle.std.specs.Prelude.{◌↔◌, IsTrue, IfOk, IfErr, OnOk}
use Rattle.std.proofs.Math.Seq.{drop-cons}
use Rattle.std.proofs.lemmas.Bool.Decides.{nat_tests}
use Rattle.std.proofs.lemmas.List.{length-append}
use Rattle.rv_hart.specs.Refusals.{HasNoRoom, IsIdle}
use Rattle.rv_hart.specs.State.{Guest, State}
use Rattle.rv_hart.specs.Step.{step_of}
use Rattle.rv_hart.specs.StepLaws.{IdleLaw, NoHartLaw, OutputLaw}
use Rattle.rv_hart.specs.declared.access.Event.{Event}
use Rattle.rv_hart.specs.declared.machine.StepFault.{StepFault}
use Rattle.rv_hart.specs.declared.machine.StepFault.TheVariants.{NoHart, NotRunning, OutputFull, NoMemory}
use Rattle.rv_words.specs.WordsGuest.{refusal, stepped}
use Rattle.rv_words.specs.declared.fault.WordsFault.TheVariants.{Step}

abbrev answer : StepFault → Result Event StepFault
answer fault = Err fault

-- a step that is refused is refused for want of a running hart of the number: there was room for a byte,
-- and the store doesn't refuse
refused_for : NoHartLaw → IdleLaw → (g : Guest) (h : ℕ) (fault : StepFault) → ((answer fault ≡ answer NoHart) ↔ (length g.state.harts ≤ h)) → ((answer fault ≡ answer NotRunning) ↔ IsIdle g.state h)
    → ((answer fault ≡ answer OutputFull) ↔ HasNoRoom g h) → ((answer fault ≡ answer NoMemory) → IsTrue false) → length g.state.output < g.limit
    → (step_of g.state h ≡ None) × (fault ≡ refusal g.state h)
refused_for no_hart_step idle_step g h NoHart none idle full memory room =
    let past = none.0 refl in
    let test : nat_lt h (length g.state.harts) ≡ false = grind (arith, nat_tests) in
    (no_hart_step g.state h past, rw test refl)
refused_for no_hart_step idle_step g h NotRunning none idle full memory room =
    let is_idle = idle.0 refl in
    let test : nat_lt h (length g.state.harts) ≡ true = is_idle.within in
    (idle_step g.state h is_idle, rw test refl)
refused_for no_hart_step idle_step g h OutputFull none idle full memory room =
    let no_room = full.0 refl in
    let least : g.limit ≤ length g.state.output = grind (arith, nat_tests, no_room.full) in
    absurd (omega arith)
refused_for no_hart_step idle_step g h NoMemory none idle full memory room = let refuses = memory refl in cc

prints_one : OutputLaw → (s t : State) (h : ℕ) (event : Event) → step_of s h ≡ Some (event, t) → length t.output ≤ length s.output + 1
prints_one output s t h event step =
    let grown = output s t h event step in
    let count : length t.output ≡ length s.output + length grown.0 = ap length grown.2 ∙ length-append s.output grown.0 in
    omega (arith, grown.1)

-- what a step answers, either way
pub answer_prints : OutputLaw → (answer : Result Event StepFault) (s : State) (h : ℕ) (t : State) → IfOk answer (λ event. step_of s h ≡ Some (event, t)) → OnOk answer (length t.output ≤ length s.output + 1)
answer_prints output (Ok event) s h t step = prints_one output s t h event step
answer_prints output (Err fault) s h t step = tt

pub answer_refused : NoHartLaw → IdleLaw → (answer : Result Event StepFault) (g : Guest) (h : ℕ) → ((answer ≡ Err NoHart) ↔ (length g.state.harts ≤ h)) → ((answer ≡ Err NotRunning) ↔ IsIdle g.state h)
    → ((answer ≡ Err OutputFull) ↔ HasNoRoom g h) → ((answer ≡ Err NoMemory) → IsTrue false) → length g.state.output < g.limit
    → IfErr answer (λ fault. (step_of g.state h ≡ None) × (fault ≡ refusal g.state h))
answer_refused no_hart_step idle_step (Ok event) g h none idle full memory room = tt
answer_refused no_hart_step idle_step (Err fault) g h none idle full memory room =
    refused_for no_hart_step idle_step g h fault none idle full memory room

pub stepped_refused : (s : State) (steps : List ℕ) (number : ℕ) (fault : StepFault) → number < length steps → (step_of s (get_or steps number 0) ≡ None) × (fault ≡ refusal s (get_or steps number 0))
    → stepped number s (drop number steps) ≡ Err (Step number fault)
stepped_refused s steps number fault within why =
    rw (drop-cons steps number 0 within, why.0) (ap (λ f. Err (Step number f)) (sym why.1))

pub stepped_next : (s : State) (steps : List ℕ) (number : ℕ) (event : Event) (t : State) → number < length steps → step_of s (get_or steps number 0) ≡ Some (event, t)
    → stepped number s (drop number steps) ≡ stepped (number + 1) t (drop (number + 1) steps)
stepped_next s steps number event t within step =
    let one : number + 1 ≡ suc number = omega arith in
    rw (drop-cons steps number 0 within, step) (ap (λ k. stepped (number + 1) t (drop k steps)) (sym one))
