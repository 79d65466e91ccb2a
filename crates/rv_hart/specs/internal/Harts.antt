use Rattle.std.specs.Prelude.{◌≡◌, ℕ, Bool, Option, Some, None, List, map, is_some, slice_get, slice_set, if◌then◌else◌, IsSomeAnd}
use Rattle.std.specs.List.{list_any}
use Rattle.rv_hart.specs.Step.{seen_by, hart_after}
use Rattle.rv_hart.specs.declared.access.Access.{Access}
use Rattle.rv_hart.specs.declared.action.Action.{Action}
use Rattle.rv_hart.specs.declared.hart.Hart.{Hart}
use Rattle.rv_hart.specs.declared.write.Write.{Write}

-- the harts after hart h has taken an action: each has seen its write, and h has moved on
abbrev pub HartsAfter : List Hart → List Hart → ℕ → ℕ → Action → Option Write → Type 0
HartsAfter old new h loaded action write =
    IsSomeAnd (slice_get old h) (λ hart. new ≡ slice_set (map (seen_by write) old) h (hart_after loaded hart action))

-- the harts after each but hart h has seen a write
abbrev pub Sees : List Hart → List Hart → ℕ → Option Write → Type 0
Sees old new h write = IsSomeAnd (slice_get old h) (λ hart. new ≡ slice_set (map (seen_by write) old) h hart)

-- what an access writes, as far as another hart sees it: where, and not what
abbrev pub write_of_access : Access → Option Write
write_of_access a = if a.write then Some (record { address = a.first; size = a.size; value = 0 }) else None

abbrev pub holds : Hart → Bool
holds hart = is_some hart.reservation

-- some hart holds a reservation
abbrev pub any_holds : List Hart → Bool
any_holds harts = list_any holds harts
