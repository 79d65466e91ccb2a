-- A step that is no SC depends only on its hart, the permissions and the bytes that it reads.
use Rattle.std.proofs.Common.{◌≡◌, ℕ, ◌%◌, Bool, true, false, cond, Option, Some, None, refl, sym, ap, subst, ◌∙◌}
use Rattle.std.specs.Prelude.{◌==◌, IsSomeAnd, slice_get, is_some}
use Rattle.rv_hart.specs.Act.{act}
use Rattle.rv_hart.specs.Locality.{is_conditional, SamePermissions, AreAlikeTo, GoesOnAlike, LocalityLaw}
use Rattle.rv_hart.specs.Refusals.{is_running_hart}
use Rattle.rv_hart.specs.State.{State, is_running}
use Rattle.rv_hart.specs.Step.{step_of, action_at, action_at_word, allowed, fetched, tested, loaded_by, written_by, event_of, hart_after, state_after, memory_after}
use Rattle.rv_hart.specs.StepLaws.{SameButReservation}
use Rattle.rv_hart.specs.declared.access.Event.{Event}
use Rattle.rv_hart.specs.declared.action.Action.{Action}
use Rattle.rv_hart.specs.declared.action.Action.TheVariants.{Trap, Set, Load, Store, Reserve, Conditional, Replace, Print, Exit}
use Rattle.rv_hart.specs.declared.hart.Cause.{Cause}
use Rattle.rv_hart.specs.declared.hart.Cause.TheVariants.{FetchFault, LoadMisaligned, LoadFault, StoreMisaligned, StoreFault}
use Rattle.rv_hart.specs.declared.hart.Hart.{Hart}
use Rattle.rv_hart.specs.declared.write.Write.{Write}
use Rattle.rv_isa.specs.Decoded.{decoded}
use Rattle.rv_isa.specs.declared.instr.Instr.{Instr}
use Rattle.rv_isa.specs.declared.op.Op.{Op}
use Rattle.rv_isa.specs.declared.op.Op.TheVariants.{Lui}
use Rattle.rv_memory.specs.Memory.{Memory, load, permits}
use Rattle.rv_memory.specs.declared.store.Need.{Need}
use Rattle.rv_memory.specs.declared.store.Need.TheVariants as need
use Rattle.rv_hart.proofs.LawLemmas.{was, some_same, get_map, get_set_same}
use Rattle.rv_hart.proofs.ReservationLemmas.{steps_of_running_harts}
use Rattle.rv_hart.proofs.StepLemmas.{step_parts}

-- the hart with another reservation
abbrev holding : Hart → Option ℕ → Hart
holding hart r = record hart { reservation = r }

is_holding : (hart other : Hart) → SameButReservation hart other → other ≡ holding hart other.reservation
is_holding hart other same = rw (← same.registers, ← same.pc, ← same.status) refl

-- ---- the action

same_act : (op : Op) (i : Instr) (hart : Hart) (r : Option ℕ) → act op i (holding hart r) ≡ act op i hart
same_act Lui i hart r = refl
same_act _ i hart r = refl

same_at_word : (o : Option Instr) (hart : Hart) (r : Option ℕ) → action_at_word o (holding hart r) ≡ action_at_word o hart
same_at_word None hart r = refl
same_at_word (Some i) hart r = same_act i.op i hart r

same_fetched : (m n : Memory) (hart : Hart) (r : Option ℕ) → SamePermissions m n → load n hart.pc 4 ≡ load m hart.pc 4 → fetched n (holding hart r) ≡ fetched m hart
same_fetched m n hart r permissions word =
    ap (λ (b : Bool). cond b (action_at_word (decoded (load n hart.pc 4)) (holding hart r)) (Trap FetchFault)) (permissions hart.pc 4 need.Execute)
    ∙ ap (λ (a : Action). cond (permits m hart.pc 4 need.Execute) a (Trap FetchFault)) (ap (λ (k : ℕ). action_at_word (decoded k) (holding hart r)) word ∙ same_at_word (decoded (load m hart.pc 4)) hart r)

same_tested : (m n : Memory) (address size : ℕ) (x : Need) (misaligned fault : Cause) (action : Action) → SamePermissions m n → tested n address size x misaligned fault action ≡ tested m address size x misaligned fault action
same_tested m n address size x misaligned fault action permissions =
    ap (λ (b : Bool). cond (address % size == 0) (cond b action (Trap fault)) (Trap misaligned)) (permissions address size x)

same_allowed : (m n : Memory) (action : Action) → SamePermissions m n → allowed n action ≡ allowed m action
same_allowed m n (Load rd address size signed) p = same_tested m n address size need.Read LoadMisaligned LoadFault (Load rd address size signed) p
same_allowed m n (Store address size value) p = same_tested m n address size need.Write StoreMisaligned StoreFault (Store address size value) p
same_allowed m n (Reserve rd address) p = same_tested m n address 4 need.Read LoadMisaligned LoadFault (Reserve rd address) p
same_allowed m n (Conditional rd address value) p = same_tested m n address 4 need.Write StoreMisaligned StoreFault (Conditional rd address value) p
same_allowed m n (Replace rd address combine value) p = same_tested m n address 4 need.ReadWrite StoreMisaligned StoreFault (Replace rd address combine value) p
same_allowed m n (Trap cause) p = refl
same_allowed m n (Set rd value next) p = refl
same_allowed m n (Print byte) p = refl
same_allowed m n (Exit code) p = refl

same_action : (m n : Memory) (hart : Hart) (r : Option ℕ) → SamePermissions m n → load n hart.pc 4 ≡ load m hart.pc 4 → action_at n (holding hart r) ≡ action_at m hart
same_action m n hart r permissions word =
    ap (allowed n) (same_fetched m n hart r permissions word) ∙ same_allowed m n (fetched m hart) permissions

-- ---- what an action does

same_event : (hart : Hart) (r : Option ℕ) (action : Action) → is_conditional action ≡ false → event_of (holding hart r) action ≡ event_of hart action
same_event hart r (Conditional rd address value) no_sc = cc
same_event hart r (Trap cause) no_sc = refl
same_event hart r (Set rd value next) no_sc = refl
same_event hart r (Load rd address size signed) no_sc = refl
same_event hart r (Store address size value) no_sc = refl
same_event hart r (Reserve rd address) no_sc = refl
same_event hart r (Replace rd address combine value) no_sc = refl
same_event hart r (Print byte) no_sc = refl
same_event hart r (Exit code) no_sc = refl

same_written : (loaded : ℕ) (hart : Hart) (r : Option ℕ) (action : Action) → is_conditional action ≡ false → written_by loaded (holding hart r) action ≡ written_by loaded hart action
same_written loaded hart r (Conditional rd address value) no_sc = cc
same_written loaded hart r (Trap cause) no_sc = refl
same_written loaded hart r (Set rd value next) no_sc = refl
same_written loaded hart r (Load rd address size signed) no_sc = refl
same_written loaded hart r (Store address size value) no_sc = refl
same_written loaded hart r (Reserve rd address) no_sc = refl
same_written loaded hart r (Replace rd address combine value) no_sc = refl
same_written loaded hart r (Print byte) no_sc = refl
same_written loaded hart r (Exit code) no_sc = refl

same_left : (loaded : ℕ) (hart : Hart) (r : Option ℕ) (action : Action) → is_conditional action ≡ false → SameButReservation (hart_after loaded hart action) (hart_after loaded (holding hart r) action)
same_left loaded hart r (Conditional rd address value) no_sc = cc
same_left loaded hart r (Trap cause) no_sc = record { registers = refl; pc = refl; status = refl }
same_left loaded hart r (Set rd value next) no_sc = record { registers = refl; pc = refl; status = refl }
same_left loaded hart r (Load rd address size signed) no_sc = record { registers = refl; pc = refl; status = refl }
same_left loaded hart r (Store address size value) no_sc = record { registers = refl; pc = refl; status = refl }
same_left loaded hart r (Reserve rd address) no_sc = record { registers = refl; pc = refl; status = refl }
same_left loaded hart r (Replace rd address combine value) no_sc = record { registers = refl; pc = refl; status = refl }
same_left loaded hart r (Print byte) no_sc = record { registers = refl; pc = refl; status = refl }
same_left loaded hart r (Exit code) no_sc = record { registers = refl; pc = refl; status = refl }

-- ---- the step

-- hart h after its action
left_there : (s : State) (h : ℕ) (hart : Hart) (action : Action) → slice_get s.harts h ≡ Some hart → slice_get (state_after s h hart action).harts h ≡ Some (hart_after (loaded_by s.memory action) hart action)
left_there s h hart action there = get_set_same _ h _ _ (get_map s.harts _ h hart there)

both_there : (P : Hart → Hart → Type 0) (one two : Option Hart) (x y : Hart) → one ≡ Some x → two ≡ Some y → P x y → IsSomeAnd one (λ a. IsSomeAnd two (P a))
both_there P one two x y a b p = rw (a, b) p

-- both states after the action, of harts that differ at most in the reservation
goes_on : (s t : State) (h : ℕ) (hart : Hart) (r : Option ℕ) → slice_get s.harts h ≡ Some hart → slice_get t.harts h ≡ Some (holding hart r) → AreAlikeTo hart s.memory t.memory → is_conditional (action_at s.memory hart) ≡ false →
    GoesOnAlike s (state_after s h hart (action_at s.memory hart)) t (state_after t h (holding hart r) (action_at s.memory hart)) h hart (holding hart r)
goes_on s t h hart r there there_too memory no_sc =
    let action : Action = action_at s.memory hart in
    let l : ℕ = loaded_by s.memory action in
    let after_too : slice_get (state_after t h (holding hart r) action).harts h ≡ Some (hart_after l (holding hart r) action) =
    left_there t h (holding hart r) action there_too ∙ ap (λ (k : ℕ). Some (hart_after k (holding hart r) action)) memory.loaded in
    let w : written_by (loaded_by t.memory action) (holding hart r) action ≡ written_by l hart action =
    ap (λ (k : ℕ). written_by k (holding hart r) action) memory.loaded ∙ same_written l hart r action no_sc in
    record {
      action = same_action s.memory t.memory hart r memory.permissions memory.word;
      left = both_there SameButReservation _ _ _ _ (left_there s h hart action there) after_too (same_left l hart r action no_sc);
      memory = refl;
      memory_too = ap (memory_after t.memory) w;
      output = refl;
      output_too = refl;
    }

runs_here : (s t : State) (h : ℕ) (hart : Hart) (e : Event) → slice_get s.harts h ≡ Some hart → step_of s h ≡ Some (e, t) → is_running hart.status ≡ true
runs_here s t h hart e there step = ap is_running_hart (sym there) ∙ sym (steps_of_running_harts s h) ∙ ap is_some step

abbrev Alike : State → State → State → ℕ → Event → Hart → Hart → Type 0
Alike s t after h made hart other = (after_too : State) × (step_of t h ≡ Some (made, after_too)) × GoesOnAlike s after t after_too h hart other

alike : (s t : State) (h : ℕ) (hart : Hart) (r : Option ℕ) → slice_get s.harts h ≡ Some hart → slice_get t.harts h ≡ Some (holding hart r) → is_running hart.status ≡ true → AreAlikeTo hart s.memory t.memory → is_conditional (action_at s.memory hart) ≡ false →
    Alike s t (state_after s h hart (action_at s.memory hart)) h (event_of hart (action_at s.memory hart)) hart (holding hart r)
alike s t h hart r there there_too running memory no_sc =
    let action : Action = action_at s.memory hart in
    let next : action_at t.memory (holding hart r) ≡ action = same_action s.memory t.memory hart r memory.permissions memory.word in
    let made = step_parts t h (holding hart r) action there_too (record { running = running; next = sym next }) in
    let event : event_of (holding hart r) action ≡ event_of hart action = same_event hart r action no_sc in
    let after_too : State = state_after t h (holding hart r) action in
    (after_too, made ∙ ap (λ (e : Event). Some (e, after_too)) event, goes_on s t h hart r there there_too memory no_sc)

pub locality_law : LocalityLaw
locality_law s t after h hart other made stands step =
    let w = was s after h made step in
    let same : w.0 ≡ hart = some_same w.0 hart (sym w.1.there ∙ stands.there) in
    let is_after : after ≡ state_after s h hart (action_at s.memory hart) = w.1.after ∙ ap (λ (x : Hart). state_after s h x (action_at s.memory x)) same in
    let is_made : made ≡ event_of hart (action_at s.memory hart) = w.1.event ∙ ap (λ (x : Hart). event_of x (action_at s.memory x)) same in
    let is_other : other ≡ holding hart other.reservation = is_holding hart other stands.same in
    let running = runs_here s after h hart made stands.there step in
    let found = alike s t h hart other.reservation stands.there (stands.there_too ∙ ap Some is_other) running stands.memory stands.no_sc in
    let here = subst (λ (x : Hart). Alike s t (state_after s h hart (action_at s.memory hart)) h (event_of hart (action_at s.memory hart)) hart x) (sym is_other) found in
    let there = subst (λ (u : State). Alike s t u h (event_of hart (action_at s.memory hart)) hart other) (sym is_after) here in
    subst (λ (e : Event). Alike s t after h e hart other) (sym is_made) there
