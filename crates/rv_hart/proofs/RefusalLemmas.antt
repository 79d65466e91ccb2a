-- Which refusal a step has, by the tests in their order.
use Rattle.std.proofs.Common.{◌≡◌, ℕ, ◌<◌, ◌≤◌, true, false, Option, Some, None, length, IsTrue, refl, arith}
use Rattle.std.specs.Prelude.{nat_lt, nat_le, slice_get}
use Rattle.std.proofs.lemmas.Bool.Decides.{nat_tests}
use Rattle.rv_hart.specs.Refusals.{IsIdle, HasNoRoom, is_print, is_running_hart, prints}
use Rattle.rv_hart.specs.State.{Guest, State, is_running}
use Rattle.rv_hart.specs.Step.{action_at}
use Rattle.rv_hart.specs.declared.hart.Hart.{Hart}
use Rattle.rv_memory.specs.Memory.{Memory}

below : (a b : ℕ) → IsTrue (nat_lt a b) → a < b
below a b test = grind (arith, nat_tests)

is_below : (a b : ℕ) → a < b → IsTrue (nat_lt a b)
is_below a b order = grind (arith, nat_tests)

at_most : (a b : ℕ) → IsTrue (nat_le a b) → a ≤ b
at_most a b test = grind (arith, nat_tests)

is_at_most : (a b : ℕ) → a ≤ b → IsTrue (nat_le a b)
is_at_most a b order = grind (arith, nat_tests)

pub past_idle : (s : State) (h : ℕ) → length s.harts ≤ h → IsIdle s h → ⊥
past_idle s h past idle =
    let within : h < length s.harts = below h (length s.harts) idle.within in
    omega arith

pub is_idle : (s : State) (h : ℕ) → h < length s.harts → is_running_hart (slice_get s.harts h) ≡ false → IsIdle s h
is_idle s h within idle = record { within = is_below h (length s.harts) within; idle = rw idle refl }

pub running_idle : (s : State) (h : ℕ) → is_running_hart (slice_get s.harts h) ≡ true → IsIdle s h → ⊥
running_idle s h running idle =
    let wrong = rw running at idle.idle in
    cc

pub idle_prints : (m : Memory) (o : Option Hart) → is_running_hart o ≡ false → IsTrue (prints m o) → ⊥
idle_prints m None idle test = cc
idle_prints m (Some hart) idle test =
    let wrong = rw idle at test in
    cc

pub does_print : (m : Memory) (o : Option Hart) (hart : Hart) → o ≡ Some hart → is_running hart.status ≡ true → is_print (action_at m hart) ≡ true → IsTrue (prints m o)
does_print m o hart found running print = rw (found, running, print) refl

pub printed_there : (m : Memory) (o : Option Hart) (hart : Hart) → o ≡ Some hart → is_running hart.status ≡ true → IsTrue (prints m o) → IsTrue (is_print (action_at m hart))
printed_there m o hart found running test = rw (found, running) at test

pub no_room : (g : Guest) (h : ℕ) → IsTrue (prints g.state.memory (slice_get g.state.harts h)) → g.limit ≤ length g.state.output → HasNoRoom g h
no_room g h test full = record { prints = test; full = is_at_most g.limit (length g.state.output) full }

pub is_full : (g : Guest) (h : ℕ) → HasNoRoom g h → g.limit ≤ length g.state.output
is_full g h none = at_most g.limit (length g.state.output) none.full
