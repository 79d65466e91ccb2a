-- What a step is, by its hart's action.
use Rattle.std.proofs.Common.{◌≡◌, ℕ, Bool, true, false, cond, Option, Some, None, List, [], ◌++◌, refl, sym, ap, subst, ◌∙◌}
use Rattle.std.specs.Prelude.{slice_get, IsSomeAnd}
use Rattle.std.proofs.lemmas.List.{append_cancel_left, append-nil}
use Rattle.rv_hart.specs.Locality.{is_conditional, SamePermissions}
use Rattle.rv_hart.specs.NextAccess.{accessed, access_of_step, next_access}
use Rattle.rv_hart.specs.State.{State, is_running}
use Rattle.rv_hart.specs.Step.{step_of, step_of_hart, step_by, state_after, action_at, access_of, event_of, loaded_by, memory_after, written_by}
use Rattle.rv_hart.specs.declared.access.Access.{Access}
use Rattle.rv_hart.specs.declared.access.Event.{Event}
use Rattle.rv_hart.specs.declared.action.Action.{Action}
use Rattle.rv_hart.specs.declared.action.Action.TheVariants.{Trap, Set, Load, Store, Reserve, Conditional, Replace, Print, Exit}
use Rattle.rv_hart.specs.declared.hart.Hart.{Hart}
use Rattle.rv_hart.specs.declared.write.Write.{Write}
use Rattle.rv_memory.specs.Memory.{Memory, byte}
use Rattle.rv_memory.specs.MemoryLaws.{StoreKeepsOtherBytes, StoreKeepsPermissions}
use Rattle.rv_waits.specs.Touches.{in_access}
use Rattle.rv_waits.proofs.ByteLemmas.{same_load, store_idle}

pub some_and : {P : Hart → Type 0} (o : Option Hart) → IsSomeAnd o P → (hart : Hart) × (o ≡ Some hart) × P hart
some_and None h = absurd h
some_and (Some hart) h = (hart, refl, h)

pub record IsStepOf (s t : State) (h : ℕ) (e : Event) (hart : Hart) : Type 0 where
  pub there : slice_get s.harts h ≡ Some hart
  pub event : e ≡ event_of hart (action_at s.memory hart)
  pub after : t ≡ state_after s h hart (action_at s.memory hart)

if_some : {A : Type 0} → (running : Bool) (x y : A) → cond running (Some x) None ≡ Some y → x ≡ y
if_some true x y h = cc
if_some false x y h = cc

is_step_of : (s t : State) (h : ℕ) (e : Event) (o : Option Hart) → slice_get s.harts h ≡ o → step_of_hart s h o ≡ Some (e, t) → (hart : Hart) × IsStepOf s t h e hart
is_step_of s t h e None there step = cc
is_step_of s t h e (Some hart) there step =
    let same : step_by s h hart (action_at s.memory hart) ≡ (e, t) = if_some (is_running hart.status) _ _ step in
    (hart, record { there = there; event = sym (ap (λ (p : Event × State). p.0) same); after = sym (ap (λ (p : Event × State). p.1) same) })

pub step_is : (s t : State) (h : ℕ) (e : Event) → step_of s h ≡ Some (e, t) → (hart : Hart) × IsStepOf s t h e hart
unfolding step_of
step_is s t h e step = is_step_of s t h e (slice_get s.harts h) refl step

-- there is one step of a hart from a state
pub same_step : (s t u : State) (h : ℕ) (e f : Event) → step_of s h ≡ Some (e, t) → step_of s h ≡ Some (f, u) → t ≡ u
same_step s t u h e f one two =
    let both : Some (e, t) ≡ Some (f, u) = sym one ∙ two in
    let pair : (e, t) ≡ (f, u) = cc in
    ap (λ (p : Event × State). p.1) pair

pub accessed_is : (hart : Hart) (action : Action) → accessed (event_of hart action) ≡ access_of hart action
accessed_is hart (Trap cause) = refl
accessed_is hart (Set rd value next) = refl
accessed_is hart (Load rd address size signed) = refl
accessed_is hart (Store address size value) = refl
accessed_is hart (Reserve rd address) = refl
accessed_is hart (Conditional rd address value) = refl
accessed_is hart (Replace rd address combine value) = refl
accessed_is hart (Print byte) = refl
accessed_is hart (Exit code) = refl

-- the access that is next is the event's
pub next_is_accessed : (s t : State) (h : ℕ) (e : Event) → step_of s h ≡ Some (e, t) → next_access s h ≡ accessed e
unfolding next_access
next_is_accessed s t h e step = ap access_of_step step

-- the access of the step that a hart makes
pub next_access_is : (s t : State) (h : ℕ) (e : Event) (hart : Hart) → slice_get s.harts h ≡ Some hart → step_of s h ≡ Some (e, t) → next_access s h ≡ access_of hart (action_at s.memory hart)
unfolding next_access
next_access_is s t h e hart there step =
    let w = step_is s t h e step in
    let both : Some w.0 ≡ Some hart = sym w.1.there ∙ there in
    let same : w.0 ≡ hart = cc in
    ap access_of_step step ∙ ap accessed w.1.event ∙ accessed_is w.0 (action_at s.memory w.0) ∙ ap (λ (x : Hart). access_of x (action_at s.memory x)) same

-- ---- permissions

after_write : StoreKeepsPermissions → (m : Memory) (w : Option Write) → SamePermissions m (memory_after m w)
after_write keeps m None address size need = refl
after_write keeps m (Some w) address size need = keeps m w.address w.size w.value address size need

pub step_keeps_permissions : StoreKeepsPermissions → (s t : State) (h : ℕ) (e : Event) → step_of s h ≡ Some (e, t) → SamePermissions s.memory t.memory
step_keeps_permissions keeps s t h e step =
    let w = step_is s t h e step in
    let action : Action = action_at s.memory w.0 in
    let here = after_write keeps s.memory (written_by (loaded_by s.memory action) w.0 action) in
    subst (λ (u : State). SamePermissions s.memory u.memory) (sym w.1.after) here

-- ---- what an action does in a memory with the same bytes where it accesses it

abbrev pub SameAccessed : Memory → Memory → Option Access → Type 0
SameAccessed m n access = (address : ℕ) → in_access access address ≡ true → byte n address ≡ byte m address

pub same_loaded : (m n : Memory) (hart : Hart) (action : Action) → SameAccessed m n (access_of hart action) → loaded_by n action ≡ loaded_by m action
same_loaded m n hart (Load rd address size signed) same = same_load m n address size same
same_loaded m n hart (Reserve rd address) same = same_load m n address 4 same
same_loaded m n hart (Replace rd address combine value) same = same_load m n address 4 same
same_loaded m n hart (Trap cause) same = refl
same_loaded m n hart (Set rd value next) same = refl
same_loaded m n hart (Store address size value) same = refl
same_loaded m n hart (Conditional rd address value) same = refl
same_loaded m n hart (Print byte) same = refl
same_loaded m n hart (Exit code) same = refl

-- what changes no byte in the one changes none in the other
pub idle_write : StoreKeepsOtherBytes → (m n : Memory) (hart : Hart) (loaded : ℕ) (action : Action) → is_conditional action ≡ false → SameAccessed m n (access_of hart action) → memory_after m (written_by loaded hart action) ≡ m → memory_after n (written_by loaded hart action) ≡ n
idle_write keeps m n hart loaded (Store address size value) no_sc same e = store_idle keeps m n address size value same e
idle_write keeps m n hart loaded (Replace rd address combine value) no_sc same e = store_idle keeps m n address 4 _ same e
idle_write keeps m n hart loaded (Conditional rd address value) no_sc same e = cc
idle_write keeps m n hart loaded (Load rd address size signed) no_sc same e = refl
idle_write keeps m n hart loaded (Reserve rd address) no_sc same e = refl
idle_write keeps m n hart loaded (Trap cause) no_sc same e = refl
idle_write keeps m n hart loaded (Set rd value next) no_sc same e = refl
idle_write keeps m n hart loaded (Print byte) no_sc same e = refl
idle_write keeps m n hart loaded (Exit code) no_sc same e = refl

-- what printed nothing prints nothing
pub prints_none : (before printed : List ℕ) → before ++ printed ≡ before → printed ≡ []
prints_none before printed e = append_cancel_left before printed [] (e ∙ sym (append-nil before))
