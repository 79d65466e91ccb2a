-- What the steps of a list accessed.
use Rattle.std.specs.Prelude.{ℕ, Option, option_and_then, List}
use Rattle.rv_collide.specs.Entries.{stepped_at}
use Rattle.rv_collide.specs.Next.{next}
use Rattle.rv_collide.specs.declared.entry.Entry.{Entry}
use Rattle.rv_hart.specs.State.{State}
use Rattle.rv_hart.specs.declared.access.Access.{Access}

-- the access of the step at a place; none where the entry is no step, or its step accessed nothing
unfoldable pub made : State → List Entry → ℕ → Option Access
made start entries place = option_and_then (λ hart. next start entries place hart) (stepped_at entries place)
