-- What a threaded run leaves, and what its refusals tell.
use Rattle.std.specs.Prelude.{◌≡◌, ℕ, [], ⊤}
use Rattle.rv_drive.specs.Able.{HasEnded, IsLong}
use Rattle.rv_collide.specs.Answers.{IsOutput}
use Rattle.rv_drive.specs.Draws.{IsArmedByDraws, is_resumed}
use Rattle.rv_collide.specs.Legal.{IsLegal}
use Rattle.rv_collide.specs.Numbers.{numbers}
use Rattle.rv_collide.specs.Plan.{Numbers}
use Rattle.rv_collide.specs.Stored.{setting_of, stored}
use Rattle.rv_collide.specs.Verdict.{endings}
use Rattle.rv_collide.specs.declared.collider.Finished.{Finished}
use Rattle.rv_elf.specs.Contents.{Contents}
use Rattle.rv_drive.specs.Sampling.{sampling}
use Rattle.rv_locked.specs.declared.threads.RunFault.{RunFault}
use Rattle.rv_locked.specs.declared.threads.RunFault.TheVariants.{NoMemory, NoThread, GateClosed, Stray}

-- What the threads leave together: a legal schedule whose pauses end when they are due, whose addresses are
-- armed by the draws of the seed alone, and at whose end no pause is open and no hart is able; the endings of
-- its pauses; and the bytes printed.
pub record IsThreaded (image : Contents) (plan : Numbers) (seed : ℕ) (told : Finished) : Type 0 where
  pub plan_is : numbers told.plan ≡ plan
  pub legal : IsLegal (setting_of (stored image plan [])) told.entries.items
  pub long : IsLong (setting_of (stored image plan [])) told.entries.items
  pub arms : IsArmedByDraws (setting_of (stored image plan [])) (sampling image seed) is_resumed told.entries.items
  pub ended : HasEnded (setting_of (stored image plan [])) told.entries.items
  pub endings_are : told.endings.items ≡ endings (setting_of (stored image plan [])).start told.entries.items
  pub output_is : IsOutput (stored image plan told.entries.items) told.output.items

-- a closed gate is told with a value that it refuses the hart with
abbrev pub IsToldBy : {S : Type 0} → (ℕ → S → Type 0) → RunFault S → Type 0
IsToldBy shuts (GateClosed hart shut) = shuts hart shut
IsToldBy shuts NoMemory = ⊤
IsToldBy shuts NoThread = ⊤
IsToldBy shuts (Stray hart) = ⊤
