-- A talk over the run that two files say.
use Rattle.std.proofs.Common.{◌≡◌, ℕ, Bool, true, false, List, Option, Some, None, Ok, refl, ap, subst, inl, inr}
use Rattle.std.specs.Prelude.{◌||◌, IsOkAnd}
use Rattle.rv_collide.specs.Legal.{IsLegal}
use Rattle.rv_collide.specs.Stored.{stored}
use Rattle.rv_debug.specs.Fault as talk
use Rattle.rv_debug.specs.Placed.{Placed, moved, setting}
use Rattle.rv_debug.specs.declared.fault.TalkFault.{TalkFault}
use Rattle.rv_debug.specs.declared.fault.TalkFault.TheVariants.{TooLong, Read, Write}
use Rattle.rv_engines.specs.Debug.{IsDebugRefusal, IsOfTalk, IsTalkOver, start_of}
use Rattle.rv_faults.specs.Fault.{fault_of_talk, is_read}
use Rattle.rv_engines.specs.Replay.{IfKnown, IsReplayRefusal, run_of}
use Rattle.rv_faults.specs.declared.fault.Fault.{Fault}

at_start : (p : Placed) → p.place ≡ 0 → p ≡ start_of (stored p.image p.plan p.entries)
at_start p first = ap (λ n. moved p n) first

-- a fact of the session is one of the legal run that the files say
pub of_the_run : (image schedule : Option (List ℕ)) (p : Placed) (Fact : Placed → Type 0) → IfKnown image schedule (λ i s. run_of i s ≡ Ok (stored p.image p.plan p.entries)) → p.place ≡ 0
    → IsLegal (setting p) p.entries → Fact p → IfKnown image schedule (λ i s. IsOkAnd (run_of i s) (λ run. IsTalkOver run Fact))
of_the_run None schedule p Fact is first legal fact = tt
of_the_run (Some i) None p Fact is first legal fact = tt
of_the_run (Some i) (Some s) p Fact is first legal fact =
    let over : IsTalkOver (stored p.image p.plan p.entries) Fact = record { legal = legal; talks = subst Fact (at_start p first) fact } in
    rw is over

pub files_refused : (image schedule : Option (List ℕ)) (Nothing : Type 0) (Stops : Placed → TalkFault → Type 0) (fault : Fault) → IfKnown image schedule (λ i s. IsReplayRefusal i s fault) → Nothing
    → IfKnown image schedule (λ i s. IsDebugRefusal i s Nothing Stops fault)
files_refused None schedule Nothing Stops fault told nothing = tt
files_refused (Some i) None Nothing Stops fault told nothing = tt
files_refused (Some i) (Some s) Nothing Stops fault told nothing = inl (told, nothing)

of_talk : (Stops : TalkFault → Type 0) (fault : TalkFault) → Stops fault → IsOfTalk Stops (fault_of_talk fault)
of_talk Stops TooLong why = why
of_talk Stops Read why = why
of_talk Stops Write why = why

pub talk_refused : (image schedule : Option (List ℕ)) (Nothing : Type 0) (Stops : Placed → TalkFault → Type 0) (fault : TalkFault) (p : Placed) → IfKnown image schedule (λ i s. run_of i s ≡ Ok (stored p.image p.plan p.entries)) → p.place ≡ 0
    → IsLegal (setting p) p.entries → Stops p fault → IfKnown image schedule (λ i s. IsDebugRefusal i s Nothing Stops (fault_of_talk fault))
talk_refused None schedule Nothing Stops fault p is first legal why = tt
talk_refused (Some i) None Nothing Stops fault p is first legal why = tt
talk_refused (Some i) (Some s) Nothing Stops fault p is first legal why =
    inr (of_the_run (Some i) (Some s) p (λ q. IsOfTalk (Stops q) (fault_of_talk fault)) is first legal (of_talk (Stops p) fault why))

same_read : (fault : TalkFault) → is_read (fault_of_talk fault) ≡ talk.is_read fault
same_read TooLong = refl
same_read Read = refl
same_read Write = refl

-- the readers that failed before, in one call or in the talk
pub readers_of : (x y c c' : Bool) (fault : TalkFault) → x ≡ (y || false) → c' ≡ (c || talk.is_read fault) → (x || c') ≡ (y || c || is_read (fault_of_talk fault))
readers_of x true c c' fault first next = rw first refl
readers_of x false c c' fault first next = rw (first, next, same_read fault) refl
