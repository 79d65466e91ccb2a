-- There is a hart of the number, and it is so.
use Rattle.std.specs.Prelude.{ℕ, slice_get, IsSomeAnd}
use Rattle.rv_hart.specs.State.{State}
use Rattle.rv_hart.specs.declared.hart.Hart.{Hart}

-- there is a hart h, and it is so
abbrev pub SomeHart : (Hart → Type 0) → State → ℕ → Type 0
SomeHart P s h = IsSomeAnd (slice_get s.harts h) P
