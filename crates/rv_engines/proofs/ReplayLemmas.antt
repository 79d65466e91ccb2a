-- What two files say, and what is written of it.
use Rattle.std.proofs.Common.{◌≡◌, ℕ, ◌+◌, Bool, true, false, List, [], ◌∷◌, ◌++◌, Option, Some, None, Result, Ok, Err, take, sym, ap, subst, ◌∙◌}
use Rattle.std.specs.Prelude.{IfSome, IsOkAnd, OnOk, if◌then◌else◌, slice_get}
use Rattle.std.specs.Io.KnownBytes.{Appends, Keeps}
use Rattle.std.proofs.KnownBytes.{Appends-kept, Appends-trans}
use Rattle.rv_collide.specs.ScheduleRead.{Schedule, schedule_of}
use Rattle.rv_collide.specs.Replays.{IsReplayFault}
use Rattle.rv_collide.specs.Stored.{Stored, setting_of, stored}
use Rattle.rv_collide.specs.Texts.{OneEndingMore, ending_line, endings_text}
use Rattle.rv_collide.specs.declared.ending.Ending.{Ending}
use Rattle.rv_collide.specs.declared.replay.ReplayFault.{ReplayFault}
use Rattle.rv_collide.specs.declared.replay.ReplayFault.TheVariants as replay
use Rattle.rv_collide.specs.declared.replay.Why.{Why}
use Rattle.rv_collide.specs.declared.schedule.fault.ScheduleFault.{ScheduleFault}
use Rattle.rv_elf.specs.Contents.{Contents}
use Rattle.rv_elf.specs.Loaded.{loaded}
use Rattle.rv_elf.specs.declared.fault.LoadFault.{LoadFault}
use Rattle.rv_memory.specs.Chain.{◌>>=◌}
use Rattle.rv_faults.specs.Fault.{IsToldFault, fault_of_replay}
use Rattle.rv_engines.specs.Images.{image_of, told_load}
use Rattle.rv_engines.specs.Replay.{IfKnown, IsReplayRefusal, IsShown, run_of, told_schedule}
use Rattle.rv_faults.specs.declared.fault.Fault.{Fault}
use Rattle.rv_faults.specs.declared.fault.Fault.TheVariants.{Entry, TooLong, Read, Write, NoMemory}

-- ---- a refusal, where more steps would follow

err_then : {A B : Type 0} (r : Result A Fault) (next : A → Result B Fault) (fault : Fault) → r ≡ Err fault → (r >>= next) ≡ Err fault
err_then (Ok a) next fault h = cc
err_then (Err e) next fault h = cc

told_then : {A B : Type 0} (r : Result A Fault) (next : A → Result B Fault) (fault : Fault) → IsToldFault r fault → IsToldFault (r >>= next) fault
told_then r next Read told = tt
told_then r next Write told = tt
told_then r next NoMemory told = tt
told_then r next fault told = err_then r next fault told

-- ---- no file is refused by an entry that its call does not add

load_no_entry : (r : Result Contents LoadFault) (place : ℕ) (why : Why) → told_load r ≡ Err (Entry place why) → ⊥
load_no_entry (Ok image) place why h = cc
load_no_entry (Err fault) place why h = cc

long_no_entry : (long : Bool) (i : List ℕ) (place : ℕ) (why : Why) → (let whole : Result (List ℕ) Fault = if long then Err TooLong else Ok i in whole >>= λ bytes. told_load (loaded bytes)) ≡ Err (Entry place why) → ⊥
long_no_entry true i place why h = cc
long_no_entry false i place why h = load_no_entry (loaded i) place why h

image_no_entry : (i : List ℕ) (place : ℕ) (why : Why) → image_of i ≡ Err (Entry place why) → ⊥
unfolding image_of
image_no_entry i place why h = long_no_entry _ i place why h

schedule_no_entry : (r : Result Schedule ScheduleFault) (place : ℕ) (why : Why) → told_schedule r ≡ Err (Entry place why) → ⊥
schedule_no_entry (Ok said) place why h = cc
schedule_no_entry (Err fault) place why h = cc

-- ---- the two files

abbrev after_image : List ℕ → Contents → Result Stored Fault
after_image s contents = told_schedule (schedule_of s) >>= λ said. Ok (stored contents said.numbers said.entries)

run_after : (i s : List ℕ) (contents : Contents) → image_of i ≡ Ok contents → run_of i s ≡ after_image s contents
unfolding run_of
run_after i s contents is = ap (λ r. r >>= after_image s) is

image_told : (i s : List ℕ) (fault : Fault) → IsToldFault (image_of i) fault → IsReplayRefusal i s fault
unfolding run_of
image_told i s (Entry place why) told = absurd (image_no_entry i place why told)
image_told i s fault told = told_then (image_of i) (after_image s) fault told

schedule_told : (i s : List ℕ) (contents : Contents) (fault : Fault) → image_of i ≡ Ok contents → IsToldFault (told_schedule (schedule_of s)) fault → IsReplayRefusal i s fault
schedule_told i s contents (Entry place why) is told = absurd (schedule_no_entry (schedule_of s) place why told)
schedule_told i s contents fault is told =
    subst (λ (r : Result Stored Fault). IsToldFault r fault) (sym (run_after i s contents is))
    (told_then (told_schedule (schedule_of s)) (λ said. Ok (stored contents said.numbers said.entries)) fault told)

run_is : (i s : List ℕ) (contents : Contents) (said : Schedule) → image_of i ≡ Ok contents → schedule_of s ≡ Ok said → run_of i s ≡ Ok (stored contents said.numbers said.entries)
run_is i s contents said is says =
    run_after i s contents is ∙ ap (λ r. told_schedule r >>= λ said. Ok (stored contents said.numbers said.entries)) says

pub entry_told : (i s : List ℕ) (run : Stored) (given : ReplayFault) → run_of i s ≡ Ok run → IsReplayFault (setting_of run) run.entries given → IsReplayRefusal i s (fault_of_replay given)
entry_told i s run replay.NoMemory is told = tt
entry_told i s run (replay.Entry place why) is told = rw is told

-- ---- where their bytes are known

pub image_refused : (image schedule : Option (List ℕ)) (fault : Fault) → IfSome image (λ i. IsToldFault (image_of i) fault) → IfKnown image schedule (λ i s. IsReplayRefusal i s fault)
image_refused None schedule fault told = tt
image_refused (Some i) None fault told = tt
image_refused (Some i) (Some s) fault told = image_told i s fault told

pub schedule_refused : (image schedule : Option (List ℕ)) (contents : Contents) (fault : Fault) → IfSome image (λ i. image_of i ≡ Ok contents) → IfSome schedule (λ s. IsToldFault (told_schedule (schedule_of s)) fault)
    → IfKnown image schedule (λ i s. IsReplayRefusal i s fault)
schedule_refused None schedule contents fault is told = tt
schedule_refused (Some i) None contents fault is told = tt
schedule_refused (Some i) (Some s) contents fault is told = schedule_told i s contents fault is told

pub run_known : (image schedule : Option (List ℕ)) (contents : Contents) (said : Schedule) (run : Stored) → IfSome image (λ i. image_of i ≡ Ok contents) → IfSome schedule (λ s. schedule_of s ≡ Ok said)
    → run ≡ stored contents said.numbers said.entries → IfKnown image schedule (λ i s. run_of i s ≡ Ok run)
run_known None schedule contents said run is says made = tt
run_known (Some i) None contents said run is says made = tt
run_known (Some i) (Some s) contents said run is says made = run_is i s contents said is says ∙ ap Ok (sym made)

pub entry_refused : (image schedule : Option (List ℕ)) (contents : Contents) (said : Schedule) (given : ReplayFault) (fault : Fault) → IfSome image (λ i. image_of i ≡ Ok contents) → IfSome schedule (λ s. schedule_of s ≡ Ok said)
    → IsReplayFault (setting_of (stored contents said.numbers [])) said.entries given → fault ≡ fault_of_replay given → IfKnown image schedule (λ i s. IsReplayRefusal i s fault)
entry_refused None schedule contents said given fault is says told same = tt
entry_refused (Some i) None contents said given fault is says told same = tt
entry_refused (Some i) (Some s) contents said given fault is says told same =
    subst (λ (f : Fault). IsReplayRefusal i s f) (sym same)
    (entry_told i s (stored contents said.numbers said.entries) given (run_is i s contents said is says) told)

-- ---- what is written

-- one ending more
pub endings_next : OneEndingMore → (es : List Ending) (n : ℕ) (e : Ending) (a b c : Option (List ℕ)) → slice_get es n ≡ Some e → Appends a b (endings_text (take n es)) → Appends b c (ending_line n e ++ 10 ∷ []) → Appends a c (endings_text (take (n + 1) es))
endings_next more es n e a b c is before next =
    subst (Appends a c) (sym (more es n e is)) (Appends-trans a b c (endings_text (take n es)) (ending_line n e ++ 10 ∷ []) before next)

pub shown : (run : Stored) (a b d : Option (List ℕ)) → IsShown run (Appends a b) → Keeps b d → IsShown run (Appends a d)
shown run a b d is kept = record { legal = is.legal; end = is.end; reached = is.reached; written = Appends-kept a b d _ is.written kept }

known_shown : (image schedule : Option (List ℕ)) (run : Stored) (Writes : List ℕ → Type 0) → IfKnown image schedule (λ i s. run_of i s ≡ Ok run) → IsShown run Writes
    → IfKnown image schedule (λ i s. IsOkAnd (run_of i s) (λ run. IsShown run Writes))
known_shown None schedule run Writes is told = tt
known_shown (Some i) None run Writes is told = tt
known_shown (Some i) (Some s) run Writes is told = rw is told

-- what was written of the run is of the one that the files say
pub replay_written : (image schedule : Option (List ℕ)) (run : Stored) (Writes : List ℕ → Type 0) (outcome : Result (Unit {0}) Fault) → IfKnown image schedule (λ i s. run_of i s ≡ Ok run) → OnOk outcome (IsShown run Writes)
    → OnOk outcome (IfKnown image schedule (λ i s. IsOkAnd (run_of i s) (λ run. IsShown run Writes)))
replay_written image schedule run Writes (Ok done) is told = known_shown image schedule run Writes is told
replay_written image schedule run Writes (Err fault) is told = tt
