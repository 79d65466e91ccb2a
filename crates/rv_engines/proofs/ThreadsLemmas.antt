-- What a run by threads leaves may be written, and what is written of it.
use Rattle.std.proofs.Common.{◌≡◌, ◌∙◌, ℕ, List, [], Option, Some, None, Result, Ok, Err, refl, ap, sym, subst, cond, true, false, true≢false, length, nat_lt}
use Rattle.std.specs.Prelude.{Bool, IfSome, IsOkAnd}
use Rattle.rv_collide.specs.Grammar.{IsWritable, schedule_text}
use Rattle.rv_collide.specs.GrammarLaws.{LegalIsWritable}
use Rattle.rv_collide.specs.Numbers.{numbers}
use Rattle.rv_collide.specs.Plan.{IsPlan, Numbers}
use Rattle.rv_collide.specs.Stored.{setting_of, stored}
use Rattle.rv_collide.specs.Texts.{finished_text}
use Rattle.rv_collide.specs.declared.collider.Finished.{Finished}
use Rattle.rv_elf.specs.Contents.{Contents}
use Rattle.rv_elf.specs.Loaded.{loaded}
use Rattle.rv_elf.specs.declared.fault.LoadFault.{LoadFault}
use Rattle.rv_locked.specs.Threaded.{IsThreaded}
use Rattle.rv_memory.specs.Chain.{◌>>=◌}
use Rattle.rv_memory.specs.declared.flagged.TheConstants.{INPUT_LIMIT}
use Rattle.rv_faults.specs.Fault.{IsToldFault}
use Rattle.rv_engines.specs.Images.{image_of, told_load}
use Rattle.rv_engines.specs.Threads.{IsRunByThreads, IsThreadsRefusal}
use Rattle.rv_faults.specs.declared.fault.Fault.{Fault}
use Rattle.rv_faults.specs.declared.fault.Fault.TheVariants.{Threads, TooLong}

pub threaded_is_writable : LegalIsWritable → (image : Contents) (plan : Numbers) (seed : ℕ) (told : Finished) → IsThreaded image plan seed told → IsWritable (numbers told.plan) told.entries.items
threaded_is_writable writable image plan seed told is =
    subst (λ (n : Numbers). IsWritable n told.entries.items) (sym is.plan_is)
    (writable (setting_of (stored image plan [])) told.entries.items (subst IsPlan is.plan_is told.plan.in_range) is.legal)

pub run_shown : (known : Option (List ℕ)) (plan : Numbers) (seed : ℕ) (told : Finished) (Writes Saves : List ℕ → Type 0) → IfSome known (λ bytes. IsOkAnd (image_of bytes) (λ contents. IsThreaded contents plan seed told))
    → Writes (finished_text told) → Saves (schedule_text (numbers told.plan) told.entries.items) → IfSome known (λ bytes. IsOkAnd (image_of bytes) (λ contents. IsRunByThreads contents plan seed Writes Saves))
run_shown None plan seed told Writes Saves is written saved = tt
run_shown (Some bytes) plan seed told Writes Saves is written saved = of_image (image_of bytes) is
  where
    of_image : (r : Result Contents Fault) → IsOkAnd r (λ contents. IsThreaded contents plan seed told) → IsOkAnd r (λ contents. IsRunByThreads contents plan seed Writes Saves)
    of_image (Ok contents) threaded = record { told = told; is_threaded = threaded; written = written; saved = saved }
    of_image (Err fault) none = absurd none

-- ---- an image that is refused is not refused by threads

abbrev is_of_threads : Result Contents Fault → Bool
is_of_threads (Err (Threads why)) = true
is_of_threads _ = false

not_of_load : (r : Result Contents LoadFault) → is_of_threads (told_load r) ≡ false
not_of_load (Ok image) = refl
not_of_load (Err fault) = refl

not_of_image : (bytes : List ℕ) → is_of_threads (image_of bytes) ≡ false
unfolding image_of
not_of_image bytes = go (nat_lt INPUT_LIMIT (length bytes))
  where
    go : (b : Bool) → is_of_threads (cond b (Err TooLong) (Ok bytes) >>= λ whole. told_load (loaded whole)) ≡ false
    go true = refl
    go false = not_of_load (loaded bytes)

image_told : (bytes : List ℕ) (fault : Fault) → IsToldFault (image_of bytes) fault → IsThreadsRefusal bytes fault
image_told bytes (Threads why) told = absurd (true≢false (sym (ap is_of_threads told) ∙ not_of_image bytes))
image_told bytes fault told = told

-- the fault of the image, as that of another type of result
pub image_refused : (known : Option (List ℕ)) (fault told : Fault) → told ≡ fault → IfSome known (λ bytes. IsToldFault (image_of bytes) fault) → IfSome known (λ bytes. IsThreadsRefusal bytes told)
image_refused None fault told same is = tt
image_refused (Some bytes) fault told same is = subst (λ (f : Fault). IsThreadsRefusal bytes f) (sym same) (image_told bytes fault is)
