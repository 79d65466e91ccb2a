-- An exhibit of the run that two files say.
use Rattle.std.proofs.Common.{◌≡◌, ℕ, Bool, true, false, List, Option, Some, None, Result, Ok, Err, sym, subst}
use Rattle.std.specs.Prelude.{IsOkAnd, OnOk, if◌then◌else◌}
use Rattle.rv_collide.specs.ScheduleRead.{Schedule, schedule_of}
use Rattle.rv_collide.specs.Stored.{Stored, setting_of, stored}
use Rattle.rv_collide.specs.declared.schedule.fault.ScheduleFault.{ScheduleFault}
use Rattle.rv_elf.specs.Contents.{Contents}
use Rattle.rv_elf.specs.Loaded.{loaded}
use Rattle.rv_elf.specs.declared.fault.LoadFault.{LoadFault}
use Rattle.rv_memory.specs.Chain.{◌>>=◌}
use Rattle.rv_report.specs.Exhibit.{IsExhibit, IsExhibitFault}
use Rattle.rv_report.specs.ExhibitText.{exhibit_text}
use Rattle.rv_report.specs.SideBySide.{StandSideBySide}
use Rattle.rv_report.specs.declared.exhibit.Exhibit.{Exhibit as Shown}
use Rattle.rv_report.specs.declared.exhibit.ExhibitFault.{ExhibitFault}
use Rattle.rv_report.specs.declared.exhibit.ExhibitFault.TheVariants as why_none
use Rattle.rv_engines.specs.Exhibits.{IsCertificate, IsCertified, IsExhibitRefusal}
use Rattle.rv_faults.specs.Fault.{fault_of_exhibit}
use Rattle.rv_engines.specs.Images.{image_of, told_load}
use Rattle.rv_engines.specs.Replay.{IfKnown, IsReplayRefusal, run_of, told_schedule}
use Rattle.rv_faults.specs.declared.fault.Fault.{Fault}
use Rattle.rv_faults.specs.declared.fault.Fault.TheVariants.{Entry, Exhibit, TooLong}

-- ---- no file is refused for an ending without an exhibit

load_no_exhibit : (r : Result Contents LoadFault) (fault : ExhibitFault) → told_load r ≡ Err (Exhibit fault) → ⊥
load_no_exhibit (Ok image) fault h = cc
load_no_exhibit (Err e) fault h = cc

long_no_exhibit : (long : Bool) (i : List ℕ) (fault : ExhibitFault) → (let whole : Result (List ℕ) Fault = if long then Err TooLong else Ok i in whole >>= λ bytes. told_load (loaded bytes)) ≡ Err (Exhibit fault) → ⊥
long_no_exhibit true i fault h = cc
long_no_exhibit false i fault h = load_no_exhibit (loaded i) fault h

image_no_exhibit : (i : List ℕ) (fault : ExhibitFault) → image_of i ≡ Err (Exhibit fault) → ⊥
unfolding image_of
image_no_exhibit i fault h = long_no_exhibit _ i fault h

run_no_exhibit : (i s : List ℕ) (fault : ExhibitFault) → run_of i s ≡ Err (Exhibit fault) → ⊥
unfolding run_of
run_no_exhibit i s fault h = by_image (image_of i) (λ told. image_no_exhibit i fault told) h
  where
    by_schedule : (contents : Contents) (r : Result Schedule ScheduleFault) → (told_schedule r >>= λ said. Ok (stored contents said.numbers said.entries)) ≡ Err (Exhibit fault) → ⊥
    by_schedule contents (Ok said) h = cc
    by_schedule contents (Err e) h = cc

    by_image : (r : Result Contents Fault) → (r ≡ Err (Exhibit fault) → ⊥)
        → (r >>= λ contents. told_schedule (schedule_of s) >>= λ said. Ok (stored contents said.numbers said.entries)) ≡ Err (Exhibit fault) → ⊥
    by_image (Ok contents) never h = by_schedule contents (schedule_of s) h
    by_image (Err e) never h = never (cc)

-- ---- what is refused

of_replay : (i s : List ℕ) (n : ℕ) (fault : Fault) → IsReplayRefusal i s fault → IsExhibitRefusal i s n fault
of_replay i s n (Entry place why) told = told
of_replay i s n (Exhibit fault) told = absurd (run_no_exhibit i s fault told)
of_replay i s n fault told = told

-- the refusal of one of the files
pub files_refused : (image schedule : Option (List ℕ)) (n : ℕ) (fault : Fault) → IfKnown image schedule (λ i s. IsReplayRefusal i s fault) → IfKnown image schedule (λ i s. IsExhibitRefusal i s n fault)
files_refused None schedule n fault told = tt
files_refused (Some i) None n fault told = tt
files_refused (Some i) (Some s) n fault told = of_replay i s n fault told

told_of_run : (i s : List ℕ) (run : Stored) (n : ℕ) (given : ExhibitFault) → run_of i s ≡ Ok run → IsExhibitFault (setting_of run) run.entries n given → IsExhibitRefusal i s n (fault_of_exhibit given)
told_of_run i s run n why_none.NoMemory is told = tt
told_of_run i s run n (why_none.Replay place why) is told = rw is told
told_of_run i s run n why_none.NoEnding is told = rw is told
told_of_run i s run n why_none.NotReport is told = rw is told
told_of_run i s run n why_none.TextChanged is told = rw is told

-- the refusal of what both files say
pub exhibit_refused : (image schedule : Option (List ℕ)) (run : Stored) (n : ℕ) (given : ExhibitFault) (fault : Fault) → IfKnown image schedule (λ i s. run_of i s ≡ Ok run)
    → IsExhibitFault (setting_of run) run.entries n given → fault ≡ fault_of_exhibit given → IfKnown image schedule (λ i s. IsExhibitRefusal i s n fault)
exhibit_refused None schedule run n given fault is told same = tt
exhibit_refused (Some i) None run n given fault is told same = tt
exhibit_refused (Some i) (Some s) run n given fault is told same =
    subst (λ (f : Fault). IsExhibitRefusal i s n f) (sym same) (told_of_run i s run n given is told)

-- ---- what is shown

pub certificate_of : (image schedule : Option (List ℕ)) (run : Stored) (n : ℕ) (shown : Shown) → IfKnown image schedule (λ i s. run_of i s ≡ Ok run)
    → IsExhibit (setting_of run) run.entries n shown → StandSideBySide (setting_of run).start shown.harts.items shown.first shown.second
    → IfKnown image schedule (λ i s. IsOkAnd (run_of i s) (λ run. IsCertificate run n shown))
certificate_of None schedule run n shown is exhibit beside = tt
certificate_of (Some i) None run n shown is exhibit beside = tt
certificate_of (Some i) (Some s) run n shown is exhibit beside =
    let certificate : IsCertificate run n shown = record { is_exhibit = exhibit; side_by_side = beside } in
    rw is certificate

certified : (r : Result Stored Fault) (n : ℕ) (shown : Shown) (Writes : List ℕ → Type 0) → IsOkAnd r (λ run. IsCertificate run n shown) → Writes (exhibit_text shown) → IsOkAnd r (λ run. IsCertified run n Writes)
certified (Ok run) n shown Writes certificate written = record { shown = shown; certificate = certificate; written = written }
certified (Err fault) n shown Writes certificate written = certificate

known_certified : (image schedule : Option (List ℕ)) (n : ℕ) (shown : Shown) (Writes : List ℕ → Type 0) → IfKnown image schedule (λ i s. IsOkAnd (run_of i s) (λ run. IsCertificate run n shown))
    → Writes (exhibit_text shown) → IfKnown image schedule (λ i s. IsOkAnd (run_of i s) (λ run. IsCertified run n Writes))
known_certified None schedule n shown Writes is written = tt
known_certified (Some i) None n shown Writes is written = tt
known_certified (Some i) (Some s) n shown Writes is written = certified (run_of i s) n shown Writes is written

-- what was written is the exhibit of what the files say
pub exhibit_written : (image schedule : Option (List ℕ)) (n : ℕ) (shown : Shown) (Writes : List ℕ → Type 0) (outcome : Result (Unit {0}) Fault)
    → IfKnown image schedule (λ i s. IsOkAnd (run_of i s) (λ run. IsCertificate run n shown)) → OnOk outcome (Writes (exhibit_text shown))
    → OnOk outcome (IfKnown image schedule (λ i s. IsOkAnd (run_of i s) (λ run. IsCertified run n Writes)))
exhibit_written image schedule n shown Writes (Ok done) is written = known_certified image schedule n shown Writes is written
exhibit_written image schedule n shown Writes (Err fault) is written = tt
