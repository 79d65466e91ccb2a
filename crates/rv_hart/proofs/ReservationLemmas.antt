-- What a step leaves of the harts' reservations, and what it accesses.
use Rattle.std.proofs.Common.{◌≡◌, ℕ, ◌%◌, Bool, true, false, cond, Option, Some, None, refl, sym, ap, subst, ◌∙◌, inr}
use Rattle.std.specs.Prelude.{◌==◌, is_some, option_and_then, option_map, slice_get}
use Rattle.std.proofs.lemmas.Option.{slice_get-map}
use Rattle.rv_hart.specs.NextAccess.{accessed, access_of_step, next_access}
use Rattle.rv_hart.specs.Refusals.{is_running_hart}
use Rattle.rv_hart.specs.ReservationLaws as laws
use Rattle.rv_hart.specs.ReservationLaws.{reservation_at, own_after, writes_word, left_by}
use Rattle.rv_hart.specs.State.{State, is_running}
use Rattle.rv_hart.specs.Step.{step_of, step_of_hart, action_at, access_of, allowed, fetched, tested, loaded_by, written_by, reserves, kept, seen_by, hart_after}
use Rattle.rv_hart.specs.declared.access.Access.{Access}
use Rattle.rv_hart.specs.declared.access.Event.{Event}
use Rattle.rv_hart.specs.declared.action.Action.{Action}
use Rattle.rv_hart.specs.declared.action.Action.TheVariants.{Trap, Set, Load, Store, Reserve, Conditional, Replace, Print, Exit}
use Rattle.rv_hart.specs.declared.hart.Cause.{Cause}
use Rattle.rv_hart.specs.declared.hart.Cause.TheVariants.{LoadMisaligned, LoadFault, StoreMisaligned, StoreFault}
use Rattle.rv_hart.specs.declared.hart.Hart.{Hart}
use Rattle.rv_hart.specs.declared.write.Write.{Write}
use Rattle.rv_hart.specs.internal.Able.{HasSize}
use Rattle.rv_memory.specs.Memory.{Memory, IsSize, permits}
use Rattle.rv_memory.specs.declared.store.Need.{Need}
use Rattle.rv_memory.specs.declared.store.Need.TheVariants as need
use Rattle.rv_hart.proofs.AbleLemmas.{sized_fetched}
use Rattle.rv_hart.proofs.LawLemmas.{was, some_same, if_some, get_set_same, get_map, other_after, write_meets, same_write}
use Rattle.rv_hart.proofs.NextLemmas.{access_if_running}

-- ---- who makes a step

defined_if : {A : Type 0} → (running : Bool) (x : A) → is_some (cond running (Some x) None) ≡ running
defined_if true x = refl
defined_if false x = refl

defined : (s : State) (h : ℕ) (o : Option Hart) → is_some (step_of_hart s h o) ≡ is_running_hart o
defined s h None = refl
defined s h (Some hart) = defined_if (is_running hart.status) _

pub steps_of_running_harts : laws.StepsOfRunningHarts
unfolding step_of
steps_of_running_harts s h = defined s h (slice_get s.harts h)

-- ---- the hart's own reservation

own_left : (loaded : ℕ) (hart : Hart) (action : Action) → (hart_after loaded hart action).reservation ≡ own_after action hart.reservation
own_left loaded hart (Trap cause) = refl
own_left loaded hart (Set rd value next) = refl
own_left loaded hart (Load rd address size signed) = refl
own_left loaded hart (Store address size value) = refl
own_left loaded hart (Reserve rd address) = refl
own_left loaded hart (Conditional rd address value) = refl
own_left loaded hart (Replace rd address combine value) = refl
own_left loaded hart (Print byte) = refl
own_left loaded hart (Exit code) = refl

pub own_reservation : laws.OwnReservation
own_reservation s t h e hart step there =
    let was_it = was s t h e step in
    let same : was_it.0 ≡ hart = some_same was_it.0 hart (sym was_it.1.there ∙ there) in
    let action : Action = action_at s.memory was_it.0 in
    let after = ap (λ (u : State). slice_get u.harts h) was_it.1.after ∙ get_set_same _ h _ _ (get_map s.harts _ h was_it.0 was_it.1.there) in
    let now : reservation_at t h ≡ own_after action was_it.0.reservation = ap (option_and_then (λ (x : Hart). x.reservation)) after ∙ own_left (loaded_by s.memory action) was_it.0 action in
    subst (λ (x : Hart). reservation_at t h ≡ own_after (action_at s.memory x) x.reservation) same now

-- ---- another hart's

left_alone : (a : Option Access) (w : Option Write) (r : Option ℕ) → ((word : ℕ) → writes_word a word ≡ write_meets w word) → kept w r ≡ left_by a r
left_alone a None None same = refl
left_alone a (Some w) None same = refl
left_alone a None (Some word) same = rw (same word)
left_alone a (Some w) (Some word) same = rw (same word)

other_left : (a : Option Access) (w : Option Write) (o : Option Hart) → ((word : ℕ) → writes_word a word ≡ write_meets w word) → option_and_then (λ hart. hart.reservation) (option_map (seen_by w) o) ≡ left_by a (option_and_then (λ hart. hart.reservation) o)
other_left a w None same = refl
other_left a w (Some hart) same = left_alone a w hart.reservation same

pub others_reservations : laws.OthersReservations
others_reservations s t h j e step ne =
    let was_it = was s t h e step in
    let action : Action = action_at s.memory was_it.0 in
    let w : Option Write = written_by (loaded_by s.memory action) was_it.0 action in
    let seen = other_after s t h j was_it.0 action was_it.1.after ne ∙ slice_get-map (seen_by w) s.harts j in
    let same : (word : ℕ) → writes_word (accessed e) word ≡ write_meets w word = λ word. ap (λ (x : Event). writes_word (accessed x) word) was_it.1.event ∙ (same_write was_it.0 (loaded_by s.memory action) action).0 word in
    ap (option_and_then (λ (x : Hart). x.reservation)) seen ∙ other_left (accessed e) w (slice_get s.harts j) same

-- ---- the access

pub next_is_made : laws.NextIsMade
unfolding next_access
next_is_made s t h e step = ap access_of_step step

sized_if : (aligned permitted : Bool) (action : Action) (misaligned fault : Cause) → HasSize action → HasSize (cond aligned (cond permitted action (Trap fault)) (Trap misaligned))
sized_if true true action misaligned fault h = h
sized_if true false action misaligned fault h = tt
sized_if false permitted action misaligned fault h = tt

sized_tested : (m : Memory) (address size : ℕ) (n : Need) (misaligned fault : Cause) (action : Action) → HasSize action → HasSize (tested m address size n misaligned fault action)
sized_tested m address size n misaligned fault action h =
    sized_if (address % size == 0) (permits m address size n) action misaligned fault h

sized_allowed : (m : Memory) (action : Action) → HasSize action → HasSize (allowed m action)
sized_allowed m (Load rd address size signed) h =
    sized_tested m address size need.Read LoadMisaligned LoadFault (Load rd address size signed) h
sized_allowed m (Store address size value) h =
    sized_tested m address size need.Write StoreMisaligned StoreFault (Store address size value) h
sized_allowed m (Reserve rd address) h =
    sized_tested m address 4 need.Read LoadMisaligned LoadFault (Reserve rd address) h
sized_allowed m (Conditional rd address value) h =
    sized_tested m address 4 need.Write StoreMisaligned StoreFault (Conditional rd address value) h
sized_allowed m (Replace rd address combine value) h =
    sized_tested m address 4 need.ReadWrite StoreMisaligned StoreFault (Replace rd address combine value) h
sized_allowed m (Trap cause) h = tt
sized_allowed m (Set rd value next) h = tt
sized_allowed m (Print byte) h = tt
sized_allowed m (Exit code) h = tt

of_size : (x a : Access) → IsSize x.size → Some x ≡ Some a → IsSize a.size
of_size x a h e = subst (λ (y : Access). IsSize y.size) (some_same x a e) h

sized_access : (hart : Hart) (action : Action) (a : Access) → HasSize action → access_of hart action ≡ Some a → IsSize a.size
sized_access hart (Load rd address size signed) a h e = of_size _ a h e
sized_access hart (Store address size value) a h e = of_size _ a h e
sized_access hart (Reserve rd address) a h e = of_size _ a (inr (inr refl)) e
sized_access hart (Conditional rd address value) a h e = of_size _ a (inr (inr refl)) (ap Some (if_some (reserves hart.reservation address) _ a e))
sized_access hart (Replace rd address combine value) a h e = of_size _ a (inr (inr refl)) e
sized_access hart (Trap cause) a h e = cc
sized_access hart (Set rd value next) a h e = cc
sized_access hart (Print byte) a h e = cc
sized_access hart (Exit code) a h e = cc

if_there : (running : Bool) (o : Option Access) (a : Access) → cond running o None ≡ Some a → o ≡ Some a
if_there true o a e = e
if_there false o a e = cc

sizes_at : (s : State) (h : ℕ) (a : Access) (o : Option Hart) → access_of_step (step_of_hart s h o) ≡ Some a → IsSize a.size
sizes_at s h a None e = cc
sizes_at s h a (Some hart) e =
    let action : Action = action_at s.memory hart in
    let made = if_there (is_running hart.status) _ a (sym (access_if_running (is_running hart.status) s h hart action) ∙ e) in
    sized_access hart action a (sized_allowed s.memory (fetched s.memory hart) (sized_fetched s.memory hart)) made

pub sizes_of_accesses : laws.SizesOfAccesses
unfolding next_access step_of
sizes_of_accesses s h a e = sizes_at s h a (slice_get s.harts h) e
