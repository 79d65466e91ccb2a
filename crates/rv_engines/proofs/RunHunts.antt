-- The campaign that an image and the options ask for, and why it is refused.
use Rattle.std.proofs.Common.{◌≡◌, ℕ, zero, suc, ◌<◌, List, [], ◌∷◌, length, arith, Option, Some, None, Result, Ok, Err, refl, sym, ap, subst, ◌∙◌}
use Rattle.std.specs.Prelude.{Bool, true, false, ◌||◌, IfSome, IsSomeAnd, IsOkAnd, slice_get, ◌⊎◌}
use Rattle.std.proofs.Common.{inl, inr}
use Rattle.std.specs.Result.{IsOk, is_ok}
use Rattle.rv_campaign.specs.Campaign.{fault_of, number_fault}
use Rattle.rv_campaign.specs.Run.{Hunt, IsRun, sampling_of}
use Rattle.rv_campaign.specs.declared.runs.CampaignFault.{CampaignFault}
use Rattle.rv_campaign.specs.declared.runs.CampaignFault.TheVariants as campaign
use Rattle.rv_campaign.specs.declared.runs.NumberFault.{NumberFault}
use Rattle.rv_campaign.specs.declared.runs.NumberFault.TheVariants as number
use Rattle.std.specs.declared.convert.Infallible.{Infallible}
use Rattle.rv_drive.specs.DriverLaws.{DrawnIsLegal}
use Rattle.rv_collide.specs.Grammar.{IsWritable, schedule_text}
use Rattle.rv_collide.specs.GrammarLaws.{LegalIsWritable}
use Rattle.rv_collide.specs.Numbers.{numbers}
use Rattle.rv_collide.specs.Plan.{IsPlan, Numbers}
use Rattle.rv_collide.specs.Stored.{setting_of, stored}
use Rattle.rv_collide.specs.declared.collider.Finished.{Finished}
use Rattle.rv_elf.specs.Contents.{Contents}
use Rattle.rv_memory.specs.Chain.{◌>>=◌}
use Rattle.rv_sample.specs.Sites.{sites}
use Rattle.rv_report.specs.TableText.{table_text}
use Rattle.rv_engines.specs.Request.{Request}
use Rattle.rv_engines.specs.Campaigns.{Campaign, IsHunted, campaign_of, elements, listed, skipped, unless_some}
use Rattle.rv_faults.specs.Fault.{IsToldFault}
use Rattle.rv_engines.specs.Images.{image_of}
use Rattle.rv_faults.specs.CommandFault.{Refusal, Plain, Campaign as Numbered, NoThread, IsTold, is_thread, plainly, refusal_of_campaign}
use Rattle.rv_faults.specs.declared.fault.Fault.{Fault}
use Rattle.rv_faults.specs.declared.fault.Fault.TheVariants.{Read, Write, NoMemory}
use Rattle.rv_engines.specs.declared.run.hunting.Hunted.{Hunted}
use Rattle.rv_engines.specs.internal.Hunted.{IsReady, hunt_of}

-- ---- a refusal, where more steps would follow

never : {P : Type 0} → true ≡ false → P
never h = cc

err_then : {A B : Type 0} (r : Result A Refusal) (next : A → Result B Refusal) (told : Refusal) → r ≡ Err told → (r >>= next) ≡ Err told
err_then (Ok a) next told h = cc
err_then (Err e) next told h = cc

told_then : {A B : Type 0} (r : Result A Refusal) (next : A → Result B Refusal) (told : Refusal) → is_thread told ≡ false → IsTold r told → IsTold (r >>= next) told
told_then r next (Plain Read) other h = tt
told_then r next (Plain Write) other h = tt
told_then r next (Plain NoMemory) other h = tt
told_then r next NoThread other h = never other
told_then r next told other h = err_then r next told h

plainly_told : {A : Type 0} (r : Result A Fault) (fault : Fault) → IsToldFault r fault → IsTold (plainly r) (Plain fault)
plainly_told r Read h = tt
plainly_told r Write h = tt
plainly_told r NoMemory h = tt
plainly_told r fault h = ap plainly h

-- ---- step by step

abbrev numbered : Request → Contents → List ℕ → List (ℕ × ℕ) → Result Campaign Refusal
numbered r image excluded bytes = unless_some (fault_of r.plan r.runs r.workers) Numbered >>= λ _. Ok (record { hunt = record { image = image; plan = r.plan; seed = r.seed; excluded = excluded }; listed = bytes })

abbrev with_names : Request → Contents → List ℕ → Result Campaign Refusal
with_names r image excluded = listed image (elements r.named) >>= numbered r image excluded

abbrev with_image : Request → Contents → Result Campaign Refusal
with_image r image = skipped (elements r.skip) >>= with_names r image

of_image : (r : Request) (bytes : List ℕ) (image : Contents) → image_of bytes ≡ Ok image → campaign_of r bytes ≡ with_image r image
unfolding campaign_of
of_image r bytes image is = ap (λ o. plainly o >>= with_image r) is

of_skipped : (r : Request) (bytes : List ℕ) (image : Contents) (excluded : List ℕ) → image_of bytes ≡ Ok image → skipped (elements r.skip) ≡ Ok excluded → campaign_of r bytes ≡ with_names r image excluded
of_skipped r bytes image excluded is skips = of_image r bytes image is ∙ ap (λ o. o >>= with_names r image) skips

of_names : (r : Request) (bytes : List ℕ) (image : Contents) (excluded : List ℕ) (named : List (ℕ × ℕ)) → image_of bytes ≡ Ok image → skipped (elements r.skip) ≡ Ok excluded → listed image (elements r.named) ≡ Ok named → campaign_of r bytes ≡ numbered r image excluded named
of_names r bytes image excluded named is skips names = of_skipped r bytes image excluded is skips ∙ ap (λ o. o >>= numbered r image excluded) names

-- ---- where the bytes are known

pub image_refused : (known : Option (List ℕ)) (r : Request) (fault : Fault) (told : Refusal) → told ≡ Plain fault → IfSome known (λ bytes. IsToldFault (image_of bytes) fault) → IfSome known (λ bytes. IsTold (campaign_of r bytes) told)
unfolding campaign_of
image_refused None r fault told is h = tt
image_refused (Some bytes) r fault told is h =
    subst (λ (t : Refusal). IsTold (campaign_of r bytes) t) (sym is) (told_then (plainly (image_of bytes)) (with_image r) (Plain fault) refl (plainly_told (image_of bytes) fault h))

pub skip_refused : (known : Option (List ℕ)) (r : Request) (image : Contents) (told : Refusal) → is_thread told ≡ false → IfSome known (λ bytes. image_of bytes ≡ Ok image) → IsTold (skipped (elements r.skip)) told → IfSome known (λ bytes. IsTold (campaign_of r bytes) told)
skip_refused None r image told other is h = tt
skip_refused (Some bytes) r image told other is h =
    subst (λ (o : Result Campaign Refusal). IsTold o told) (sym (of_image r bytes image is)) (told_then (skipped (elements r.skip)) (with_names r image) told other h)

pub names_refused : (known : Option (List ℕ)) (r : Request) (image : Contents) (excluded : List ℕ) (told : Refusal) → is_thread told ≡ false → IfSome known (λ bytes. image_of bytes ≡ Ok image) → skipped (elements r.skip) ≡ Ok excluded → IsTold (listed image (elements r.named)) told → IfSome known (λ bytes. IsTold (campaign_of r bytes) told)
names_refused None r image excluded told other is skips h = tt
names_refused (Some bytes) r image excluded told other is skips h =
    subst (λ (o : Result Campaign Refusal). IsTold o told) (sym (of_skipped r bytes image excluded is skips)) (told_then (listed image (elements r.named)) (numbered r image excluded) told other h)

number_told : (r : Request) (image : Contents) (excluded : List ℕ) (named : List (ℕ × ℕ)) (number : NumberFault) → fault_of r.plan r.runs r.workers ≡ Some number → numbered r image excluded named ≡ Err (Numbered number)
number_told r image excluded named number h = ap (λ o. unless_some o Numbered >>= λ _. Ok (record { hunt = record { image = image; plan = r.plan; seed = r.seed; excluded = excluded }; listed = named })) h

numbers_accepted : (r : Request) (image : Contents) (excluded : List ℕ) (named : List (ℕ × ℕ)) → fault_of r.plan r.runs r.workers ≡ None → IsOk (numbered r image excluded named)
numbers_accepted r image excluded named h = ap (λ o. is_ok {T = Campaign} (unless_some o Numbered >>= λ _. Ok (record { hunt = record { image = image; plan = r.plan; seed = r.seed; excluded = excluded }; listed = named }))) h

fault_told : (r : Request) (image : Contents) (excluded : List ℕ) (named : List (ℕ × ℕ)) (fault : CampaignFault Infallible) → fault_of r.plan r.runs r.workers ≡ number_fault fault → IsTold (numbered r image excluded named) (refusal_of_campaign fault)
fault_told r image excluded named campaign.NoMemory h = tt
fault_told r image excluded named campaign.TooLarge h = number_told r image excluded named number.TooLarge h
fault_told r image excluded named campaign.Runs h = number_told r image excluded named number.Runs h
fault_told r image excluded named campaign.Workers h = number_told r image excluded named number.Workers h
fault_told r image excluded named campaign.NoThread h = numbers_accepted r image excluded named h
fault_told r image excluded named (campaign.GateClosed worker shut) h = elim shut [ ]

pub numbers_refused : (known : Option (List ℕ)) (r : Request) (image : Contents) (excluded : List ℕ) (named : List (ℕ × ℕ)) (fault : CampaignFault Infallible) (told : Refusal) → told ≡ refusal_of_campaign fault → IfSome known (λ bytes. image_of bytes ≡ Ok image) → skipped (elements r.skip) ≡ Ok excluded → listed image (elements r.named) ≡ Ok named → fault_of r.plan r.runs r.workers ≡ number_fault fault → IfSome known (λ bytes. IsTold (campaign_of r bytes) told)
numbers_refused None r image excluded named fault told same is skips names h = tt
numbers_refused (Some bytes) r image excluded named fault told same is skips names h =
    subst (λ (t : Refusal). IsTold (campaign_of r bytes) t) (sym same)
    (subst (λ (o : Result Campaign Refusal). IsTold o (refusal_of_campaign fault)) (sym (of_names r bytes image excluded named is skips names)) (fault_told r image excluded named fault h))

pub campaign_known : (known : Option (List ℕ)) (r : Request) (image : Contents) (excluded : List ℕ) (named : List (ℕ × ℕ)) (Fact : Campaign → Type 0) → IfSome known (λ bytes. image_of bytes ≡ Ok image) → skipped (elements r.skip) ≡ Ok excluded → listed image (elements r.named) ≡ Ok named → fault_of r.plan r.runs r.workers ≡ None
    → Fact (record { hunt = record { image = image; plan = r.plan; seed = r.seed; excluded = excluded }; listed = named }) → IfSome known (λ bytes. IsOkAnd (campaign_of r bytes) Fact)
campaign_known None r image excluded named Fact is skips names accepted fact = tt
campaign_known (Some bytes) r image excluded named Fact is skips names accepted fact =
    let whole : campaign_of r bytes ≡ Ok (record { hunt = record { image = image; plan = r.plan; seed = r.seed; excluded = excluded }; listed = named }) =
    of_names r bytes image excluded named is skips names ∙ ap (λ o. unless_some o Numbered >>= λ _. Ok (record { hunt = record { image = image; plan = r.plan; seed = r.seed; excluded = excluded }; listed = named })) accepted in
    rw whole fact

-- ---- a run may be written

pub run_is_writable : DrawnIsLegal → LegalIsWritable → (hunt : Hunt) (run : ℕ) (one : Finished) → IsRun hunt run one → IsWritable (numbers one.plan) one.entries.items
run_is_writable legal writable hunt run one is =
    let own : IsPlan hunt.plan = subst IsPlan is.plan_is one.plan.in_range in
    let setting = setting_of (stored hunt.image hunt.plan []) in
    subst (λ (n : Numbers). IsWritable n one.entries.items) (sym is.plan_is)
    (writable setting one.entries.items own (legal setting (sampling_of (sites hunt.image hunt.excluded) hunt.seed run) one.entries.items is.drawn))

-- ---- what is written and saved

saved_at : (runs : List Finished) (k : ℕ) (Saved : Finished → Type 0) → k < length runs → ((one : Finished) → slice_get runs k ≡ Some one → Saved one) → IsSomeAnd (slice_get runs k) Saved
saved_at [] k Saved below each = (let no : k < 0 = below in absurd (omega arith))
saved_at (one ∷ runs) zero Saved below each = each one refl
saved_at (one ∷ runs) (suc k) Saved below each = saved_at runs k Saved (omega (arith, below)) each

hunted_of : (r : Request) (hunted : Hunted) (c : Campaign) (Writes Saves : List ℕ → Type 0) → r.keep < r.runs → IsReady r hunted c → Writes (table_text hunted.table) → ((run : Finished) → IsRun (hunt_of hunted) r.keep run → Saves (schedule_text (numbers run.plan) run.entries.items)) → IsHunted r c Writes Saves
hunted_of r hunted c Writes Saves kept ready written saved = record {
  runs = ready.runs;
  are_runs = ready.are_runs;
  written = subst (λ rows. Writes (table_text rows)) ready.table_is written;
  saved = saved_at ready.runs r.keep _ (let count = ready.are_runs.count in omega (arith, kept, count))
      (λ one there. saved one (subst (λ (hunt : Hunt). IsRun hunt r.keep one) (sym ready.hunt_is) (ready.are_runs.each r.keep one there)));
}

in_campaign : (o : Result Campaign Refusal) (Ready Fact : Campaign → Type 0) → ((c : Campaign) → Ready c → Fact c) → IsOkAnd o Ready → IsOkAnd o Fact
in_campaign (Ok c) Ready Fact then ready = then c ready
in_campaign (Err told) Ready Fact then ready = ready

pub all_hunted : (known : Option (List ℕ)) (r : Request) (hunted : Hunted) (Writes Saves : List ℕ → Type 0) → r.keep < r.runs → IfSome known (λ bytes. IsOkAnd (campaign_of r bytes) (IsReady r hunted)) → Writes (table_text hunted.table)
    → ((run : Finished) → IsRun (hunt_of hunted) r.keep run → Saves (schedule_text (numbers run.plan) run.entries.items)) → IfSome known (λ bytes. IsOkAnd (campaign_of r bytes) (λ c. IsHunted r c Writes Saves))
all_hunted None r hunted Writes Saves kept ready written saved = tt
all_hunted (Some bytes) r hunted Writes Saves kept ready written saved =
    in_campaign (campaign_of r bytes) (IsReady r hunted) (λ c. IsHunted r c Writes Saves) (λ c is. hunted_of r hunted c Writes Saves kept is written saved) ready

-- ---- a device that failed, or want of memory

told_anyway : (o : Result Campaign Refusal) (fault : Fault) → (fault ≡ Write) ⊎ (fault ≡ NoMemory) → IsTold o (Plain fault)
told_anyway o fault device =
    elim device [
      | inl write ↦ subst (λ (f : Fault). IsTold o (Plain f)) (sym write) tt
      | inr memory ↦ subst (λ (f : Fault). IsTold o (Plain f)) (sym memory) tt
    ]

pub device_refused : (known : Option (List ℕ)) (r : Request) (fault : Fault) (told : Refusal) → told ≡ Plain fault → (fault ≡ Write) ⊎ (fault ≡ NoMemory) → IfSome known (λ bytes. IsTold (campaign_of r bytes) told)
device_refused None r fault told is device = tt
device_refused (Some bytes) r fault told is device = subst (λ (t : Refusal). IsTold (campaign_of r bytes) t) (sym is) (told_anyway (campaign_of r bytes) fault device)

-- ---- which device failed

pub file_failed : (new old writer failed : Bool) → new ≡ (old || failed) → (new || writer) ≡ (old || writer || failed)
file_failed new true writer failed is = rw is refl
file_failed new false true failed is = rw is (by_cases failed)
  where
    by_cases : (b : Bool) → (b || true) ≡ true
    by_cases true = refl
    by_cases false = refl
file_failed new false false failed is = rw is (by_cases failed)
  where
    by_cases : (b : Bool) → (b || false) ≡ b
    by_cases true = refl
    by_cases false = refl
