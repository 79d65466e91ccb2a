-- Steps folded over a list of hart numbers.
use Rattle.std.specs.Prelude.{ℕ, Option, Some, option_and_then, List, [], ◌∷◌}
use Rattle.rv_hart.specs.State.{State}
use Rattle.rv_hart.specs.Step.{step_of}

-- Steps folded over a list of hart numbers, from a state: the state that they lead to, or none where
-- one of them is not the number of a running hart.
abbrev pub run : State → List ℕ → Option State
run s [] = Some s
run s (h ∷ hs) = option_and_then (λ step. run step.1 hs) (step_of s h)
