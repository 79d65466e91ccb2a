-- A round goes on: after a step of another hart that leaves its bytes, and after its own.
use Rattle.std.proofs.Common.{◌≡◌, ◌≢◌, ℕ, zero, suc, ◌≤◌, Option, Some, refl, sym, ap, subst, ◌∙◌, arith}
use Rattle.std.specs.Prelude.{slice_get, IsSomeAnd}
use Rattle.rv_hart.specs.Locality.{LocalityLaw, SamePermissions}
use Rattle.rv_hart.specs.State.{State}
use Rattle.rv_hart.specs.Step.{step_of}
use Rattle.rv_hart.specs.StepLaws.{OtherHartsStay, SameButReservation}
use Rattle.rv_hart.specs.declared.access.Event.{Event}
use Rattle.rv_hart.specs.declared.access.Event.TheVariants.{Moved}
use Rattle.rv_hart.specs.declared.hart.Hart.{Hart}
use Rattle.rv_memory.specs.MemoryLaws.{StoreKeepsOtherBytes, StoreKeepsPermissions}
use Rattle.rv_waits.specs.Round.{IsQuietStep, StepsQuietly, IsWhereItWas, IsRound}
use Rattle.rv_waits.specs.TouchedLaw.{WaitsUntilTouched, WaitsAfterItsSteps}
use Rattle.rv_waits.proofs.AlikeLemmas.{SameTouchedIn, in_both, where_back, where_on, step_alike, steps_alike}
use Rattle.rv_waits.proofs.StepLemmas.{same_step, step_keeps_permissions}

-- a state in which the hart stands the same has the same round
pub round_alike : LocalityLaw → StoreKeepsOtherBytes → (h n : ℕ) (s t : State) → IsRound s h n → IsWhereItWas h s t → SamePermissions s.memory t.memory → SameTouchedIn n s h t.memory → IsRound t h n
round_alike local keeps h n s t round w permissions same =
    let found = steps_alike local keeps h n s round.back.0 t round.back.1 w permissions same in
    let back : IsWhereItWas h t found.0 = where_on h t s found.0 (where_back h s t w) (where_on h s round.back.0 found.0 round.back.2 found.2) in
    record { some = round.some; back = (found.0, found.1, back) }

-- a hart that has a round is there, and another's step leaves it where it was
pub where_left : OtherHartsStay → (s t u : State) (h j : ℕ) (event : Event) → IsWhereItWas h s u → step_of s j ≡ Some (event, t) → j ≢ h → IsWhereItWas h s t
where_left stay s t u h j event w step ne =
    let b = in_both h s u w in
    let here = stay s t j event step h (λ e. ne (sym e)) b.0 b.2.there in
    subst (λ (o : Option Hart). IsSomeAnd o (λ one. IsSomeAnd (slice_get t.harts h) (SameButReservation one))) (sym b.2.there) here

pub until_touched : LocalityLaw → OtherHartsStay → StoreKeepsOtherBytes → StoreKeepsPermissions → WaitsUntilTouched
until_touched local stay keeps permissions s t h j n event round step ne untouched =
    round_alike local keeps h n s t round (where_left stay s t round.back.0 h j event round.back.2 step ne) (step_keeps_permissions permissions s t j event step) untouched

-- ---- its own steps

pub steps_memory : (h n : ℕ) (s t : State) → StepsQuietly h n s t → t.memory ≡ s.memory
steps_memory h zero s t steps = ap (λ (x : State). x.memory) (sym steps)
steps_memory h (suc n) s t (next, quiet, rest) = steps_memory h n next t rest ∙ quiet.memory

pub steps_snoc : (h n : ℕ) (s t u : State) → StepsQuietly h n s t → IsQuietStep h t u → StepsQuietly h (suc n) s u
steps_snoc h zero s t u steps quiet = (u, subst (λ (x : State). IsQuietStep h x u) (sym steps) quiet, refl)
steps_snoc h (suc n) s t u (next, first, rest) quiet = (next, first, steps_snoc h n next t u rest quiet)

pub round_on : LocalityLaw → StoreKeepsOtherBytes → (s t : State) (h n : ℕ) (event : Event) → 1 ≤ n → (u : State) → StepsQuietly h n s u → IsWhereItWas h s u → step_of s h ≡ Some (event, t) → IsRound t h n
round_on local keeps s t h zero event some u steps w step = absurd (omega arith)
round_on local keeps s t h (suc n) event some u (next, quiet, rest) w step =
    let met : next ≡ t = same_step s next t h (Moved quiet.moves.0) event quiet.moves.1 step in
    let memory : u.memory ≡ s.memory = steps_memory h n next u rest ∙ quiet.memory in
    let again = step_alike local keeps h s next u quiet w (λ address size need. rw memory refl) (λ address e. rw memory refl) in
    let back : IsRound next h (suc n) = record { some = some; back = (again.0, steps_snoc h n next u again.0 rest again.1, again.2) } in
    subst (λ (x : State). IsRound x h (suc n)) met back

pub after_its_steps : LocalityLaw → StoreKeepsOtherBytes → WaitsAfterItsSteps
after_its_steps local keeps s t h n event round step = round_on local keeps s t h n event round.some round.back.0 round.back.1 round.back.2 step
