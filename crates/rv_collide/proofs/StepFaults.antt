-- A step that a turn is forced to make is refused for want of memory alone.
use Rattle.std.proofs.Common.{◌≡◌, ℕ, ◌≤◌, ◌<◌, Bool, true, false, List, length, Result, Err, ap, arith}
use Rattle.std.specs.Prelude.{not, nat_le, slice_get, ◌↔◌}
use Rattle.std.proofs.lemmas.Bool.Decides.{nat_tests}
use Rattle.std.proofs.lemmas.Option.{slice_get_past}
use Rattle.rv_hart.specs.Refusals.{HasNoRoom, IsIdle, is_running_hart}
use Rattle.rv_hart.specs.State.{Guest}
use Rattle.rv_hart.specs.declared.access.Event.{Event}
use Rattle.rv_hart.specs.declared.hart.Hart.{Hart}
use Rattle.rv_hart.specs.declared.machine.StepFault.{StepFault}
use Rattle.rv_hart.specs.declared.machine.StepFault.TheVariants.{NoHart, NotRunning, OutputFull, NoMemory}

by_fault : {P : Type 0} → (fault : StepFault) (r : Result Event StepFault) → r ≡ Err fault → (r ≡ Err NoHart → ⊥) → (r ≡ Err NotRunning → ⊥) → (r ≡ Err OutputFull → ⊥) → (r ≡ Err NoMemory → P) → P
by_fault NoHart r is a b c d = absurd (a is)
by_fault NotRunning r is a b c d = absurd (b is)
by_fault OutputFull r is a b c d = absurd (c is)
by_fault NoMemory r is a b c d = d is

not_both : (b : Bool) → b ≡ true → b ≡ false → ⊥
not_both true h g = cc
not_both false h g = cc

pub no_hart : (harts : List Hart) (h : ℕ) → is_running_hart (slice_get harts h) ≡ true → length harts ≤ h → ⊥
no_hart harts h runs past = not_both (is_running_hart (slice_get harts h)) runs (ap is_running_hart (slice_get_past harts h past))

idle_runs : (b : Bool) → b ≡ true → not b ≡ true → ⊥
idle_runs true h g = cc
idle_runs false h g = cc

full_is : (limit output : ℕ) → output < limit → nat_le limit output ≡ true → ⊥
full_is limit output lt h = grind (arith, nat_tests)

pub only_memory : {P : Type 0} → (m : Guest) (h : ℕ) (fault : StepFault) (r : Result Event StepFault) → r ≡ Err fault → is_running_hart (slice_get m.state.harts h) ≡ true → length m.state.output < m.limit → ((r ≡ Err NoHart) ↔ (length m.state.harts ≤ h)) → ((r ≡ Err NotRunning) ↔ IsIdle m.state h) → ((r ≡ Err OutputFull) ↔ HasNoRoom m h) → (r ≡ Err NoMemory → P) → P
only_memory m h fault r is runs room no_hart_is idle_is full_of memory =
    by_fault fault r is
    (λ e. no_hart m.state.harts h runs (no_hart_is.0 e))
    (λ e. let i = idle_is.0 e in idle_runs (is_running_hart (slice_get m.state.harts h)) runs i.idle)
    (λ e. let f = full_of.0 e in full_is m.limit (length m.state.output) room f.full)
    memory
