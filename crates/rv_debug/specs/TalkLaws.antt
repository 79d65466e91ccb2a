-- A session has one text of answers to given lines, but for want of memory.
use Rattle.std.specs.Prelude.{◌≡◌, ℕ, ◌⊎◌, ⊤, List, [], ◌∷◌}
use Rattle.rv_debug.specs.Answered.{fault_text}
use Rattle.rv_debug.specs.Placed.{Placed}
use Rattle.rv_debug.specs.Talk.{Answers}
use Rattle.rv_debug.specs.declared.session.SessionFault.TheVariants.{NoMemory}

-- `fault 5 NoMemory`
abbrev pub no_memory : List ℕ
no_memory = fault_text NoMemory

-- just one of two answers is `fault 5 NoMemory`
abbrev pub LacksMemoryInOne : List ℕ → List ℕ → Type 0
LacksMemoryInOne one other =
    ((one ≡ no_memory) × (other ≡ no_memory → ⊥)) ⊎ ((one ≡ no_memory → ⊥) × (other ≡ no_memory))

-- The answers to the same lines are the same: all of them, or those before the first line that just one of the two
-- talks answers with `fault 5 NoMemory`.
abbrev pub AreOne : List (List ℕ) → List (List ℕ) → Type 0
AreOne [] [] = ⊤
AreOne (one ∷ ones) (other ∷ others) = ((one ≡ other) × AreOne ones others) ⊎ LacksMemoryInOne one other
AreOne _ _ = ⊥

-- Two talks from the same place of the same session over the same lines are one but for want of memory. So at most
-- one of all their texts is without `fault 5 NoMemory`.
abbrev pub TalksAreOne : Type 0
TalksAreOne =
    (p : Placed) (lines one other : List (List ℕ)) (end end' : Placed) → Answers p lines one end → Answers p lines other end' → AreOne one other
