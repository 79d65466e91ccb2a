-- What `threads` writes of the bytes of an image: the endings and the turns of a run by threads, and its schedule.
use Rattle.std.specs.Prelude.{ℕ, IsOk, List}
use Rattle.rv_collide.specs.Grammar.{schedule_text}
use Rattle.rv_collide.specs.Numbers.{numbers}
use Rattle.rv_collide.specs.Plan.{Numbers}
use Rattle.rv_collide.specs.Texts.{finished_text}
use Rattle.rv_collide.specs.declared.collider.Finished.{Finished}
use Rattle.rv_elf.specs.Contents.{Contents}
use Rattle.rv_locked.specs.Threaded.{IsThreaded}
use Rattle.rv_faults.specs.Fault.{IsToldFault}
use Rattle.rv_engines.specs.Images.{image_of}
use Rattle.rv_faults.specs.declared.fault.Fault.{Fault}
use Rattle.rv_faults.specs.declared.fault.Fault.TheVariants.{Threads}

-- This is one that a run of the image by threads may leave; its endings and its turns are written, and its schedule
-- is saved. Which of them it is, the threads decide.
pub record IsRunByThreads (image : Contents) (plan : Numbers) (seed : ℕ) (Writes Saves : List ℕ → Type 0) : Type 0 where
  pub told : Finished
  pub is_threaded : IsThreaded image plan seed told
  pub written : Writes (finished_text told)
  pub saved : Saves (schedule_text (numbers told.plan) told.entries.items)

-- The fault is the one that is told of an image; threads are refused only where there is an image to run.
abbrev pub IsThreadsRefusal : List ℕ → Fault → Type 0
IsThreadsRefusal bytes (Threads fault) = IsOk (image_of bytes)
IsThreadsRefusal bytes fault = IsToldFault (image_of bytes) fault
