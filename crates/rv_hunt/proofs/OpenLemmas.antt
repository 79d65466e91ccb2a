-- The hunt that an image and the lists ask for, and why it is refused.
use Rattle.std.proofs.Common.{◌≡◌, ℕ, List, Option, Some, None, Result, Ok, Err, refl, sym, ap, subst, ◌∙◌}
use Rattle.std.specs.Prelude.{true, false, IfOk, IfSome, IsOkAnd}
use Rattle.std.specs.Result.{IsOk}
use Rattle.rv_elf.specs.Contents.{Contents}
use Rattle.rv_search.specs.Hunt.{Hunt}
use Rattle.rv_memory.specs.Chain.{◌>>=◌}
use Rattle.rv_engines.specs.Campaigns.{elements, listed, skipped}
use Rattle.rv_faults.specs.CommandFault.{Refusal, Plain, NoThread, IsTold, is_thread, plainly, refusal}
use Rattle.rv_faults.specs.Fault.{IsToldFault}
use Rattle.rv_engines.specs.Images.{image_of}
use Rattle.rv_faults.specs.declared.fault.Fault.{Fault}
use Rattle.rv_faults.specs.declared.fault.Fault.TheVariants.{Read, Write, NoMemory}
use Rattle.rv_shown.specs.Asked.{Asked}
use Rattle.rv_faults.specs.declared.command.CommandFault.{CommandFault}
use Rattle.rv_faults.specs.declared.command.CommandFault.TheVariants as run
use Rattle.rv_hunt.specs.engine.HuntFault.{is_plain_refusal}
use Rattle.rv_hunt.specs.engine.Hunting.{hunt_of, sought_in}
use Rattle.rv_hunt.specs.declared.engine.fault.HuntFault.{HuntFault}
use Rattle.rv_hunt.specs.declared.engine.fault.HuntFault.TheVariants.{Command, Ignored, Expected, Aimed, Lines}
use Rattle.rv_hunt.specs.declared.engine.opening.Listed.{Listed}
use Rattle.rv_tables.specs.declared.merge.fault.FileFault.{FileFault}
use Rattle.rv_tables.specs.declared.merge.ignore.Line.{Line}
use Rattle.rv_hunt.specs.internal.Opened.{IsLineTold, IsOpenTold, hunt_by, hunt_with, hunt_with_names, hunt_with_sites, sought_with}
use Rattle.rv_tables.specs.merge.FileFault as file
use Rattle.rv_tables.specs.merge.Ignore.{aimed_in}

-- ---- a refusal, where more steps would follow

never : {P : Type 0} → true ≡ false → P
never h = cc

err_then : {A B : Type 0} (r : Result A Refusal) (next : A → Result B Refusal) (told : Refusal) → r ≡ Err told → (r >>= next) ≡ Err told
err_then (Ok a) next told h = cc
err_then (Err e) next told h = cc

told_then : {A B : Type 0} (r : Result A Refusal) (next : A → Result B Refusal) (told : Refusal) → is_thread told ≡ false → IsTold r told → IsTold (r >>= next) told
told_then r next (Plain Read) other h = tt
told_then r next (Plain Write) other h = tt
told_then r next (Plain NoMemory) other h = tt
told_then r next NoThread other h = never other
told_then r next told other h = err_then r next told h

pub plainly_told : {A : Type 0} (r : Result A Fault) (fault : Fault) → IsToldFault r fault → IsTold (plainly r) (Plain fault)
plainly_told r Read h = tt
plainly_told r Write h = tt
plainly_told r NoMemory h = tt
plainly_told r fault h = ap plainly h

-- ---- what is said only where something is refused for good

-- nothing is refused, so nothing that is refused for good
no_refusal : {A : Type 0} {P : Type 0} (a : A) (fault : CommandFault) → IsTold {A = A} (Ok a) (refusal fault) → is_plain_refusal fault ≡ true → P
no_refusal a (run.Plain Read) told plain = never (sym plain)
no_refusal a (run.Plain Write) told plain = never (sym plain)
no_refusal a (run.Plain NoMemory) told plain = never (sym plain)
no_refusal a run.NoThread told plain = never (sym plain)
no_refusal a fault told plain = cc

-- where the first of two is refused, there is nothing behind them
pub first_refused : {A B : Type 0} (r : Result A Refusal) (next : A → Result B Refusal) (fault : CommandFault) (Holds : B → Type 0) → IsTold r (refusal fault) → is_plain_refusal fault ≡ true → IfOk (r >>= next) Holds
first_refused (Ok a) next fault Holds told plain = no_refusal a fault told plain
first_refused (Err e) next fault Holds told plain = tt

pub ok_then : {A B : Type 0} (r : Result A Refusal) (a : A) (next : A → Result B Refusal) → r ≡ Ok a → (r >>= next) ≡ next a
ok_then r a next is = ap (λ o. o >>= next) is

pub and_ok : {A B : Type 0} (r : Result A B) (a : A) (Fact : A → Type 0) → r ≡ Ok a → Fact a → IsOkAnd r Fact
and_ok {A = A} {B = B} r a Fact is fact = subst (λ (o : Result A B). IsOkAnd o Fact) (sym is) fact

pub is_ok : {A B : Type 0} (r : Result A B) (a : A) → r ≡ Ok a → IsOk r
is_ok {A = A} {B = B} r a is = rw is

-- ---- where the bytes of the image are known

pub of_image : (asked : Asked) (bytes : List ℕ) (image : Contents) → image_of bytes ≡ Ok image → hunt_of asked bytes ≡ hunt_with asked image
unfolding hunt_of
of_image asked bytes image is = ap (λ o. plainly o >>= hunt_with asked) is

pub image_refused : (known : Option (List ℕ)) (asked : Asked) (fault : Fault) → IfSome known (λ bytes. IsToldFault (image_of bytes) fault) → IfSome known (λ bytes. IsTold (hunt_of asked bytes) (Plain fault))
unfolding hunt_of
image_refused None asked fault h = tt
image_refused (Some bytes) asked fault h = told_then (plainly (image_of bytes)) (hunt_with asked) (Plain fault) refl (plainly_told (image_of bytes) fault h)

pub list_refused : (known : Option (List ℕ)) (asked : Asked) (image : Contents) (told : Refusal) → IfSome known (λ bytes. image_of bytes ≡ Ok image) → IsTold (hunt_with asked image) told → IfSome known (λ bytes. IsTold (hunt_of asked bytes) told)
list_refused None asked image told is h = tt
list_refused (Some bytes) asked image told is h = subst (λ (o : Result Hunt Refusal). IsTold o told) (sym (of_image asked bytes image is)) h

pub hunt_known : (known : Option (List ℕ)) (asked : Asked) (image : Contents) (hunt : Hunt) → IfSome known (λ bytes. image_of bytes ≡ Ok image) → hunt_with asked image ≡ Ok hunt → IfSome known (λ bytes. hunt_of asked bytes ≡ Ok hunt)
hunt_known None asked image hunt is made = tt
hunt_known (Some bytes) asked image hunt is made = of_image asked bytes image is ∙ made

-- ---- the lists of the line, one behind the other

-- where an image is sought in, the names behind the list of addresses
abbrev sought_named : Asked → Contents → Result Contents Refusal
sought_named asked image = listed image (elements asked.named) >>= λ ranges. Ok image

pub skip_refused : (asked : Asked) (image : Contents) (fault : CommandFault) → is_thread (refusal fault) ≡ false → IsTold (skipped (elements asked.skip)) (refusal fault) → IsLineTold asked image (Command fault)
skip_refused asked image fault other told = (
  told_then (skipped (elements asked.skip)) (hunt_with_sites asked image) (refusal fault) other told,
  other,
  λ plain. first_refused (skipped (elements asked.skip)) (λ excluded. sought_named asked image) fault (λ found. IsOk (aimed_in found asked.aim)) told plain,
)

pub name_refused : (asked : Asked) (image : Contents) (excluded : List ℕ) (fault : CommandFault) → skipped (elements asked.skip) ≡ Ok excluded → is_thread (refusal fault) ≡ false → IsTold (listed image (elements asked.named)) (refusal fault)
    → IsLineTold asked image (Command fault)
name_refused asked image excluded fault is other told = (
  subst (λ (o : Result Hunt Refusal). IsTold o (refusal fault)) (sym (ok_then (skipped (elements asked.skip)) excluded (hunt_with_sites asked image) is))
      (told_then (listed image (elements asked.named)) (hunt_with_names asked image excluded) (refusal fault) other told),
  other,
  λ plain. subst (λ (o : Result Contents Refusal). IfOk o (λ found. IsOk (aimed_in found asked.aim))) (sym (ok_then (skipped (elements asked.skip)) excluded (λ excluded. sought_named asked image) is))
      (first_refused (listed image (elements asked.named)) (λ ranges. Ok image) fault (λ found. IsOk (aimed_in found asked.aim)) told plain),
)

-- the image is sought in
sought : (asked : Asked) (image : Contents) (excluded : List ℕ) (ranges : List (ℕ × ℕ)) → skipped (elements asked.skip) ≡ Ok excluded → listed image (elements asked.named) ≡ Ok ranges → sought_with asked image ≡ Ok image
sought asked image excluded ranges is names =
    ok_then (skipped (elements asked.skip)) excluded (λ excluded. sought_named asked image) is ∙ ok_then (listed image (elements asked.named)) ranges (λ ranges. Ok image) names

pub aim_refused : (asked : Asked) (image : Contents) (excluded : List ℕ) (ranges : List (ℕ × ℕ)) (fault : FileFault) → skipped (elements asked.skip) ≡ Ok excluded → listed image (elements asked.named) ≡ Ok ranges
    → file.IsTold (aimed_in image asked.aim) fault → IsLineTold asked image (Aimed fault)
aim_refused asked image excluded ranges fault is names told =
    and_ok (sought_with asked image) image (λ (found : Contents). file.IsTold (aimed_in found asked.aim) fault) (sought asked image excluded ranges is names) told

-- so far all lists are known
so_far : (asked : Asked) (image : Contents) (excluded : List ℕ) (ranges : List (ℕ × ℕ)) → skipped (elements asked.skip) ≡ Ok excluded → listed image (elements asked.named) ≡ Ok ranges → hunt_with asked image ≡ hunt_with_names asked image excluded ranges
so_far asked image excluded ranges is names =
    ok_then (skipped (elements asked.skip)) excluded (hunt_with_sites asked image) is ∙ ok_then (listed image (elements asked.named)) ranges (hunt_with_names asked image excluded) names

pub idle_refused : (asked : Asked) (image : Contents) (excluded : List ℕ) (ranges : List (ℕ × ℕ)) (aim : List Line) (fault : CommandFault) → skipped (elements asked.skip) ≡ Ok excluded → listed image (elements asked.named) ≡ Ok ranges
    → aimed_in image asked.aim ≡ Ok aim → is_thread (refusal fault) ≡ false → IsTold (listed image (elements asked.idle)) (refusal fault) → IsLineTold asked image (Command fault)
idle_refused asked image excluded ranges aim fault is names aimed other told = (
  subst (λ (o : Result Hunt Refusal). IsTold o (refusal fault)) (sym (so_far asked image excluded ranges is names))
      (told_then (listed image (elements asked.idle)) _ (refusal fault) other told),
  other,
  λ plain. subst (λ (o : Result Contents Refusal). IfOk o (λ found. IsOk (aimed_in found asked.aim))) (sym (sought asked image excluded ranges is names)) (is_ok (aimed_in image asked.aim) aim aimed),
)

pub line_known : (asked : Asked) (image : Contents) (listed_by : Listed) → skipped (elements asked.skip) ≡ Ok listed_by.excluded.items → listed image (elements asked.named) ≡ Ok listed_by.ranges → listed image (elements asked.idle) ≡ Ok listed_by.idle
    → hunt_with asked image ≡ Ok (hunt_by asked image listed_by)
line_known asked image listed_by is names idle =
    so_far asked image listed_by.excluded.items listed_by.ranges is names ∙ ok_then (listed image (elements asked.idle)) listed_by.idle _ idle

-- ---- an image's bytes

-- the image is refused: there is nothing in which anything is sought
pub file_refused : (known : Option (List ℕ)) (asked : Asked) (fault : Fault) → is_thread (Plain fault) ≡ false → IfSome known (λ bytes. IsToldFault (image_of bytes) fault) → IfSome known (λ bytes. IsOpenTold asked bytes (Command (run.Plain fault)))
file_refused None asked fault other h = tt
file_refused (Some bytes) asked fault other h = (
  image_refused (Some bytes) asked fault h,
  other,
  λ plain. first_refused (plainly (image_of bytes)) (sought_with asked) (run.Plain fault) (λ found. IsOk (aimed_in found asked.aim)) (plainly_told (image_of bytes) fault h) plain,
)

sought_of_image : (asked : Asked) (bytes : List ℕ) (image : Contents) → image_of bytes ≡ Ok image → sought_in asked bytes ≡ sought_with asked image
sought_of_image asked bytes image is = ap (λ o. plainly o >>= sought_with asked) is

pub line_refused : (known : Option (List ℕ)) (asked : Asked) (image : Contents) (fault : HuntFault) → IfSome known (λ bytes. image_of bytes ≡ Ok image) → IsLineTold asked image fault → IfSome known (λ bytes. IsOpenTold asked bytes fault)
line_refused None asked image fault is told = tt
line_refused (Some bytes) asked image (Command fault) is (told, other, aimed) = (
  list_refused (Some bytes) asked image (refusal fault) is told,
  other,
  λ plain. subst (λ (o : Result Contents Refusal). IfOk o (λ found. IsOk (aimed_in found asked.aim))) (sym (sought_of_image asked bytes image is)) (aimed plain),
)
line_refused (Some bytes) asked image (Aimed fault) is told =
    subst (λ (o : Result Contents Refusal). IsOkAnd o (λ found. file.IsTold (aimed_in found asked.aim) fault)) (sym (sought_of_image asked bytes image is)) told
line_refused (Some bytes) asked image (Lines fault) is told = never told
line_refused (Some bytes) asked image (Ignored fault) is told = never told
line_refused (Some bytes) asked image (Expected fault) is told = never told
