use Rattle.std.proofs.Common.{◌≡◌, ◌≢◌, ℕ, zero, suc, ◌+◌, ◌≤◌, inl, inr, Bool, true, false, cond, List, [], ◌∷◌, ◌++◌, Option, Some, None, map, set, refl, sym, ap, subst, ◌∙◌, arith}
use Rattle.std.specs.Prelude.{slice_get, IsSomeAnd, option_map, nat_lt, nat_le, ◌&&◌}
use Rattle.std.proofs.lemmas.List.{append-nil}
use Rattle.std.proofs.lemmas.Option.{slice_get-map}
use Rattle.std.proofs.lemmas.Bool.{cases_lt}
use Rattle.std.proofs.lemmas.Bool.Decides.{nat_tests}
use Rattle.rv_hart.specs.NextAccess.{accessed}
use Rattle.rv_hart.specs.State.{State, is_running}
use Rattle.rv_hart.specs.Step.{step_of, step_of_hart, step_by, state_after, action_at, loaded_by, written_by, memory_after, event_of, reserves, seen_by}
use Rattle.rv_hart.specs.ReservationLaws.{writes_word}
use Rattle.rv_hart.specs.StepLaws as laws
use Rattle.rv_hart.specs.StepLaws.{Acts, TrapLaw, ExitLaw, SetLaw, LoadLaw, StoreLaw, ReserveLaw, ScSucceedsLaw, ScFailsLaw, AmoLaw, PrintLaw}
use Rattle.rv_hart.specs.declared.access.Event.{Event}
use Rattle.rv_hart.specs.declared.access.Event.TheVariants.{Moved}
use Rattle.rv_hart.specs.declared.action.Action.{Action}
use Rattle.rv_hart.specs.declared.action.Action.TheVariants.{Trap, Set, Load, Store, Reserve, Conditional, Replace, Print, Exit}
use Rattle.rv_hart.specs.declared.hart.Hart.{Hart}
use Rattle.rv_hart.specs.declared.write.Write.{Write}
use Rattle.rv_memory.specs.Memory.{Memory, byte}
use Rattle.rv_memory.specs.MemoryLaws.{IsOutside, StoreKeepsOtherBytes}
use Rattle.rv_hart.proofs.HartsLemmas.{none_seen}
use Rattle.rv_hart.proofs.StepLemmas.{step_parts}

-- ---- a step by its class

-- The step of a hart that acts.
acts_step : (s : State) (h : ℕ) (hart : Hart) (action : Action) → Acts s h hart action → step_of s h ≡ Some (step_by s h hart action)
acts_step s h hart action a = step_parts s h hart action a.there (record { running = a.running; next = sym a.next })

-- where nothing is written and nothing printed, one hart becomes another and all else stays
quiet : (s : State) (h : ℕ) (hart : Hart) → record { harts = set (map (seen_by None) s.harts) h hart; memory = s.memory; output = s.output ++ [] } ≡ laws.with_hart s h hart
quiet s h hart = rw (none_seen s.harts, append-nil s.output)

pub trap_law : TrapLaw
trap_law s h hart cause a = acts_step s h hart (Trap cause) a ∙ ap (λ t. Some (event_of hart (Trap cause), t)) (quiet s h _)

pub exit_law : ExitLaw
exit_law s h hart code a = acts_step s h hart (Exit code) a ∙ ap (λ t. Some (event_of hart (Exit code), t)) (quiet s h _)

pub set_law : SetLaw
set_law s h hart rd value next a = acts_step s h hart (Set rd value next) a ∙ ap (λ t. Some (event_of hart (Set rd value next), t)) (quiet s h _)

pub load_law : LoadLaw
load_law s h hart rd address size signed a =
    acts_step s h hart (Load rd address size signed) a ∙ ap (λ t. Some (event_of hart (Load rd address size signed), t)) (quiet s h _)

pub reserve_law : ReserveLaw
reserve_law s h hart rd address a = acts_step s h hart (Reserve rd address) a ∙ ap (λ t. Some (event_of hart (Reserve rd address), t)) (quiet s h _)

pub print_law : PrintLaw
print_law s h hart byte a =
    acts_step s h hart (Print byte) a ∙ rw (none_seen s.harts) refl

loud : (s : State) (h : ℕ) (hart : Hart) (w : Write) → record { harts = set (map (seen_by (Some w)) s.harts) h hart; memory = memory_after s.memory (Some w); output = s.output ++ [] } ≡ laws.with_write s h hart w
loud s h hart w = rw (append-nil s.output)

pub store_law : StoreLaw
store_law s h hart address size value a =
    acts_step s h hart (Store address size value) a ∙ ap (λ t. Some (event_of hart (Store address size value), t)) (loud s h _ _)

pub amo_law : AmoLaw
amo_law s h hart rd address value combine a =
    acts_step s h hart (Replace rd address combine value) a ∙ ap (λ t. Some (event_of hart (Replace rd address combine value), t)) (loud s h _ _)

reserves_same : (address : ℕ) → reserves (Some address) address ≡ true
reserves_same address = grind (arith, nat_tests)

reserves_other : (o : Option ℕ) (address : ℕ) → o ≢ Some address → reserves o address ≡ false
reserves_other None address h = refl
reserves_other (Some r) address h = let other : r ≢ address = λ e. h (ap Some e) in grind (arith, nat_tests)

pub sc_succeeds_law : ScSucceedsLaw
sc_succeeds_law s h hart rd address value a held =
    let holds : reserves hart.reservation address ≡ true = rw held (reserves_same address) in
    acts_step s h hart (Conditional rd address value) a ∙ rw (holds, append-nil s.output) refl

pub sc_fails_law : ScFailsLaw
sc_fails_law s h hart rd address value a none =
    let holds : reserves hart.reservation address ≡ false = reserves_other hart.reservation address none in
    acts_step s h hart (Conditional rd address value) a ∙ rw (holds, none_seen s.harts, append-nil s.output) refl

-- ---- what no step does

-- What a step was, of what it answered.
pub record Was (s t : State) (h : ℕ) (e : Event) (hart : Hart) : Type 0 where
  pub there : slice_get s.harts h ≡ Some hart
  pub event : e ≡ event_of hart (action_at s.memory hart)
  pub after : t ≡ state_after s h hart (action_at s.memory hart)

pub some_same : {A : Type 0} → (x y : A) → Some x ≡ Some y → x ≡ y
some_same x y h = cc

pub if_some : {A : Type 0} → (running : Bool) (x y : A) → cond running (Some x) None ≡ Some y → x ≡ y
if_some true x y h = some_same x y h
if_some false x y h = cc

was_of : (s t : State) (h : ℕ) (e : Event) (o : Option Hart) → slice_get s.harts h ≡ o → step_of_hart s h o ≡ Some (e, t) → (hart : Hart) × Was s t h e hart
was_of s t h e None there step = cc
was_of s t h e (Some hart) there step =
    let same : step_by s h hart (action_at s.memory hart) ≡ (e, t) = if_some (is_running hart.status) _ _ step in
    (hart, record { there = there; event = sym (ap (λ (p : Event × State). p.0) same); after = sym (ap (λ (p : Event × State). p.1) same) })

pub was : (s t : State) (h : ℕ) (e : Event) → step_of s h ≡ Some (e, t) → (hart : Hart) × Was s t h e hart
unfolding step_of
was s t h e step = was_of s t h e (slice_get s.harts h) refl step

get_set_other : (xs : List Hart) (i j : ℕ) (x : Hart) → j ≢ i → slice_get (set xs i x) j ≡ slice_get xs j
get_set_other [] i j x ne = refl
get_set_other (y ∷ ys) zero zero x ne = absurd (ne refl)
get_set_other (y ∷ ys) zero (suc j) x ne = refl
get_set_other (y ∷ ys) (suc i) zero x ne = refl
get_set_other (y ∷ ys) (suc i) (suc j) x ne = get_set_other ys i j x (λ e. ne (ap suc e))

pub get_set_same : (xs : List Hart) (i : ℕ) (x y : Hart) → slice_get xs i ≡ Some y → slice_get (set xs i x) i ≡ Some x
get_set_same [] i x y h = cc
get_set_same (z ∷ zs) zero x y h = refl
get_set_same (z ∷ zs) (suc i) x y h = get_set_same zs i x y h

-- a hart of a list that has been mapped
pub get_map : (harts : List Hart) (f : Hart → Hart) (j : ℕ) (other : Hart) → slice_get harts j ≡ Some other → slice_get (map f harts) j ≡ Some (f other)
get_map harts f j other there = slice_get-map f harts j ∙ ap (option_map f) there

-- hart j, which is not h, after hart h has acted
pub other_after : (s t : State) (h j : ℕ) (hart : Hart) (action : Action) → t ≡ state_after s h hart action → j ≢ h → slice_get t.harts j ≡ slice_get (map (seen_by (written_by (loaded_by s.memory action) hart action)) s.harts) j
other_after s t h j hart action after ne = ap (λ (u : State). slice_get u.harts j) after ∙ get_set_other _ h j _ ne

at_some : (P : Hart → Type 0) (o : Option Hart) (hart : Hart) → o ≡ Some hart → P hart → IsSomeAnd o P
at_some P o hart e p = subst (λ (x : Option Hart). IsSomeAnd x P) (sym e) p

pub other_harts_stay : laws.OtherHartsStay
other_harts_stay s t h e step j ne other there =
    let w = was s t h e step in
    let seen = other_after s t h j w.0 (action_at s.memory w.0) w.1.after ne ∙ get_map s.harts _ j other there in
    at_some (laws.SameButReservation other) (slice_get t.harts j) _ seen (record { registers = refl; pc = refl; status = refl })

-- ---- what was written is what the access says

abbrev pub write_meets : Option Write → ℕ → Bool
write_meets None word = false
write_meets (Some w) word = nat_lt w.address (word + 4) && nat_lt word (w.address + w.size)

abbrev pub write_has : Option Write → ℕ → Bool
write_has None address = false
write_has (Some w) address = nat_le w.address address && nat_lt address (w.address + w.size)

-- the same of an event
abbrev pub SameWrite : Event → Option Write → Type 0
SameWrite e w = ((word : ℕ) → writes_word (accessed e) word ≡ write_meets w word) × ((address : ℕ) → laws.access_writes (accessed e) address ≡ write_has w address)

same_write_if : (b : Bool) (hart : Hart) (address value : ℕ) → SameWrite (Moved (cond b (Some (record { pc = hart.pc; first = address; size = 4; read = false; write = true })) None)) (cond b (Some (record { address = address; size = 4; value = value })) None)
same_write_if true hart address value = (λ word. refl, λ a. refl)
same_write_if false hart address value = (λ word. refl, λ a. refl)

pub same_write : (hart : Hart) (loaded : ℕ) (action : Action) → SameWrite (event_of hart action) (written_by loaded hart action)
same_write hart loaded (Trap cause) = (λ word. refl, λ a. refl)
same_write hart loaded (Set rd value next) = (λ word. refl, λ a. refl)
same_write hart loaded (Load rd address size signed) = (λ word. refl, λ a. refl)
same_write hart loaded (Store address size value) = (λ word. refl, λ a. refl)
same_write hart loaded (Reserve rd address) = (λ word. refl, λ a. refl)
same_write hart loaded (Conditional rd address value) = same_write_if (reserves hart.reservation address) hart address value
same_write hart loaded (Replace rd address combine value) = (λ word. refl, λ a. refl)
same_write hart loaded (Print byte) = (λ word. refl, λ a. refl)
same_write hart loaded (Exit code) = (λ word. refl, λ a. refl)

-- ---- bytes

outside : (first size address : ℕ) → nat_le first address && nat_lt address (first + size) ≡ false → IsOutside address first size
outside first size address h =
    elim (cases_lt address first) [
      | inl before ↦ inl before
      | inr from ↦ let past : first + size ≤ address = grind (arith, nat_tests) in inr past
    ]

byte_stays : StoreKeepsOtherBytes → (m : Memory) (w : Option Write) (address : ℕ) → write_has w address ≡ false → byte (memory_after m w) address ≡ byte m address
byte_stays keeps m None address h = refl
byte_stays keeps m (Some w) address h = keeps m w.address w.size w.value address (outside w.address w.size address h)

pub other_bytes_stay : StoreKeepsOtherBytes → laws.OtherBytesStay
other_bytes_stay keeps s t h e step address none =
    let was_it = was s t h e step in
    let action : Action = action_at s.memory was_it.0 in
    let w : Option Write = written_by (loaded_by s.memory action) was_it.0 action in
    let apart : write_has w address ≡ false = sym ((same_write was_it.0 (loaded_by s.memory action) action).1 address) ∙ sym (ap (λ (x : Event). laws.access_writes (accessed x) address) was_it.1.event) ∙ none in
    ap (λ (u : State). byte u.memory address) was_it.1.after ∙ byte_stays keeps s.memory w address apart
