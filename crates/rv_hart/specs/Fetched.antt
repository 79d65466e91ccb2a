-- The word at a hart's pc, where its bytes may be executed.
use Rattle.std.specs.Prelude.{◌≡◌, ℕ, Some, List, IsSomeAnd, slice_get}
use Rattle.rv_hart.specs.State.{State}
use Rattle.rv_hart.specs.declared.hart.Hart.{Hart}
use Rattle.rv_memory.specs.Memory.{Memory, load_permitted}
use Rattle.rv_memory.specs.declared.store.Need.TheVariants.{Execute}

abbrev pub IsWordAt : List Hart → Memory → ℕ → ℕ → Type 0
IsWordAt harts memory h word = IsSomeAnd (slice_get harts h) (λ hart. load_permitted memory hart.pc 4 Execute ≡ Some word)

-- there is a hart h, and this is the word at its pc
abbrev pub IsWordOf : State → ℕ → ℕ → Type 0
IsWordOf s h word = IsWordAt s.harts s.memory h word
