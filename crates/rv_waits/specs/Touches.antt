-- Which bytes a hart touches, those of its instructions and of its accesses, and whether it loads data.
use Rattle.std.specs.Prelude.{◌≡◌, ℕ, zero, suc, ◌+◌, ◌⊎◌, Bool, true, false, ◌&&◌, ◌||◌, nat_le, nat_lt, Option, Some, None, slice_get}
use Rattle.rv_hart.specs.NextAccess.{next_access}
use Rattle.rv_hart.specs.State.{State}
use Rattle.rv_hart.specs.Step.{step_of}
use Rattle.rv_hart.specs.declared.access.Access.{Access}
use Rattle.rv_hart.specs.declared.access.Event.{Event}
use Rattle.rv_hart.specs.declared.hart.Hart.{Hart}

-- one of the n steps that hart h makes from s, alone, is made from a state that is so
abbrev pub SomeStep : (State → Type 0) → ℕ → ℕ → State → Type 0
SomeStep P h zero s = ⊥
SomeStep P h (suc n) s = P s ⊎ ((next : State) × ((event : Event) × (step_of s h ≡ Some (event, next))) × SomeStep P h n next)

-- the address is one of `size` from the first on
abbrev pub is_among : ℕ → ℕ → ℕ → Bool
is_among first size address = nat_le first address && nat_lt address (first + size)

-- one of the four bytes of the instruction at its pc
abbrev pub in_instruction : Option Hart → ℕ → Bool
in_instruction None address = false
in_instruction (Some hart) address = is_among hart.pc 4 address

abbrev pub in_access : Option Access → ℕ → Bool
in_access None address = false
in_access (Some access) address = is_among access.first access.size address

-- the next step of hart h touches the byte: it is one of its instruction or of its access
abbrev pub touches_next : State → ℕ → ℕ → Bool
touches_next s h address = in_instruction (slice_get s.harts h) address || in_access (next_access s h) address

-- one of the n steps that hart h makes from s, alone, touches the byte at the address
abbrev pub Touches : ℕ → ℕ → State → ℕ → Type 0
Touches h n s address = SomeStep (λ u. touches_next u h address ≡ true) h n s

-- the access reads data
abbrev pub is_read : Option Access → Bool
is_read None = false
is_read (Some access) = access.read

-- one of the n steps that hart h makes from s, alone, loads data, as LR and an AMO do too
abbrev pub Loads : ℕ → ℕ → State → Type 0
Loads h n s = SomeStep (λ u. is_read (next_access u h) ≡ true) h n s
