use Rattle.std.proofs.Common.{◌≡◌, ℕ, ◌+◌, List, [], ◌∷◌, Option, Some, None, Result, Ok}
use Rattle.std.specs.Prelude.{option_and_then}
use Rattle.std.specs.Option.{ok_or}
use Rattle.rv_hart.specs.Run.{run}
use Rattle.rv_hart.specs.State.{State}
use Rattle.rv_hart.specs.Step.{step_of}
use Rattle.rv_hart.specs.declared.access.Event.{Event}
use Rattle.rv_words.specs.StepsLaw.{StepsAreTheRun}
use Rattle.rv_memory.specs.Chain.{◌>>=◌}
use Rattle.rv_words.specs.WordsGuest.{stepped}
use Rattle.rv_words.specs.declared.fault.WordsFault.{WordsFault}

abbrev Same : Result State WordsFault → Option State → Type 0
Same r o = (t : State) → ((r ≡ Ok t) → (o ≡ Some t)) × ((o ≡ Some t) → (r ≡ Ok t))

same_at : (o : Option (Event × State)) (fault : WordsFault) (number : ℕ) (steps : List ℕ) → ((s : State) → Same (stepped number s steps) (run s steps)) → Same (ok_or o fault >>= λ step. stepped number step.1 steps) (option_and_then (λ step. run step.1 steps) o)
same_at None fault number steps same t = (λ h. cc, λ h. cc)
same_at (Some step) fault number steps same t = same step.1 t

same_run : (steps : List ℕ) (number : ℕ) (s : State) → Same (stepped number s steps) (run s steps)
same_run [] number s t = (λ h. cc, λ h. cc)
same_run (h ∷ hs) number s t = same_at (step_of s h) _ (number + 1) hs (same_run hs (number + 1)) t

pub steps_are_the_run : StepsAreTheRun
steps_are_the_run s t number steps = same_run steps number s t
