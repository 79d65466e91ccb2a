-- The quick path takes the step that the definitions have.
use Rattle.std.proofs.Common.{◌≡◌, ℕ, ◌%◌, ◌<◌, ◌⊎◌, inl, inr, zero, suc, map, set, get_or, Bool, true, false, cond, List, [], ◌∷◌, length, Option, Some, None, refl, sym, ap, subst, ◌∙◌}
use Rattle.std.specs.Prelude.{◌==◌, ◌||◌, ⊤, is_some, slice_get, IfSome, IsSomeAnd}
use Rattle.std.proofs.lemmas.List.{append-nil, get_or-set_same, length-set, map-set, set-get_or, set-set}
use Rattle.std.proofs.lemmas.Option.{slice_get-get_or, slice_get_within}
use Rattle.rv_hart.specs.Act.{action_of}
use Rattle.rv_hart.specs.Common.{NotesKept}
use Rattle.rv_hart.specs.Fetched.{IsWordAt}
use Rattle.rv_hart.specs.State.{State}
use Rattle.rv_hart.specs.Refusals.{is_print, is_running_hart}
use Rattle.rv_hart.specs.Step.{action_at_word, allowed, hart_after, kept, loaded_by, memory_after, reserves, seen_by, write, written_by}
use Rattle.rv_hart.specs.Arithmetic.{combined}
use Rattle.rv_hart.specs.declared.access.Access.{Access}
use Rattle.rv_hart.specs.declared.access.AccessKind.TheVariants as kind
use Rattle.rv_hart.specs.declared.access.Common.{Common}
use Rattle.rv_hart.specs.declared.access.Common.TheVariants.{Untaken}
use Rattle.rv_hart.specs.declared.access.Event.{Event}
use Rattle.rv_hart.specs.declared.access.Event.TheVariants.{Moved}
use Rattle.rv_hart.specs.declared.access.Noted.{Noted}
use Rattle.rv_hart.specs.declared.action.Action.{Action}
use Rattle.rv_hart.specs.declared.action.Action.TheVariants.{Set, Load, Store, Reserve, Conditional, Replace}
use Rattle.rv_hart.specs.declared.action.Combine.{Combine}
use Rattle.rv_hart.specs.declared.hart.Hart.{Hart}
use Rattle.rv_hart.specs.declared.hart.Status.TheVariants.{Running}
use Rattle.rv_hart.specs.declared.quick.Attempt.{Attempt}
use Rattle.rv_hart.specs.declared.quick.Attempt.TheVariants as attempt
use Rattle.rv_hart.specs.declared.write.Write.{Write}
use Rattle.rv_hart.specs.internal.Able.{HasSize}
use Rattle.rv_hart.specs.internal.HartAccess.{hart_plain, plain_access}
use Rattle.rv_hart.specs.internal.Harts.{HartsAfter, Sees, any_holds, holds, write_of_access}
use Rattle.rv_hart.specs.internal.Machine.{RunsTo}
use Rattle.rv_hart.specs.internal.Quick.{Begins, BeginsPlain, Fetches, IsQuick, KeepsBack, KeepsBackAt, Moves, Tried, TriedAt, event_of_attempt, is_reserving, over, write_of}
use Rattle.rv_hart.proofs.AbleLemmas.{fetched_word, sized_fetched}
use Rattle.rv_hart.proofs.HartsLemmas.{none_seen}
use Rattle.rv_hart.proofs.NextLemmas.{next_plain_is}
use Rattle.rv_hart.proofs.StepLemmas.{harts_count, step_made}
use Rattle.rv_isa.specs.Decoded.{decoded}
use Rattle.rv_isa.specs.declared.instr.Instr.{Instr}
use Rattle.rv_memory.specs.Memory.{Memory, load, load_permitted, permits, store}
use Rattle.rv_memory.specs.Sound.{IsSound}
use Rattle.rv_memory.specs.declared.store.Need.TheVariants as need

-- ---- the action that a hart begins

pub begins : (m : Memory) (word : ℕ) (hart : Hart) (i : Instr) (action : Action) → Fetches m word hart → decoded word ≡ Some i → action ≡ action_of i hart → Begins m action hart
begins m word hart i action f is a =
    record {
      running = f.running;
      action_is = a ∙ sym (ap (λ o. action_at_word o hart) is) ∙ fetched_word hart (permits m hart.pc 4 need.Execute) (load m hart.pc 4) word f.word_is;
    }

pub sized_begun : (m : Memory) (hart : Hart) (action : Action) → Begins m action hart → HasSize action
sized_begun m hart action b = subst HasSize (sym b.action_is) (sized_fetched m hart)

-- ---- what passed its test is what the hart does next

set_runs : (m : Memory) (hart : Hart) (rd value next : ℕ) → Begins m (Set rd value next) hart → RunsTo m hart (Set rd value next)
set_runs m hart rd value next b = record { running = b.running; next = ap (allowed m) b.action_is }

load_allowed : (m : Memory) (rd address size : ℕ) (signed : Bool) → (address % size == 0) ≡ true → permits m address size need.Read ≡ true → allowed m (Load rd address size signed) ≡ Load rd address size signed
load_allowed m rd address size signed aligned permitted = rw (aligned, permitted) refl

load_runs : (m : Memory) (hart : Hart) (rd address size : ℕ) (signed : Bool) → Begins m (Load rd address size signed) hart → (address % size == 0) ≡ true → permits m address size need.Read ≡ true → RunsTo m hart (Load rd address size signed)
load_runs m hart rd address size signed b aligned permitted =
    record { running = b.running; next = sym (load_allowed m rd address size signed aligned permitted) ∙ ap (allowed m) b.action_is }

store_allowed : (m : Memory) (address size value : ℕ) → (address % size == 0) ≡ true → permits m address size need.Write ≡ true → allowed m (Store address size value) ≡ Store address size value
store_allowed m address size value aligned permitted = rw (aligned, permitted) refl

store_runs : (m : Memory) (hart : Hart) (address size value : ℕ) → Begins m (Store address size value) hart → (address % size == 0) ≡ true → permits m address size need.Write ≡ true → RunsTo m hart (Store address size value)
store_runs m hart address size value b aligned permitted =
    record { running = b.running; next = sym (store_allowed m address size value aligned permitted) ∙ ap (allowed m) b.action_is }

pub permitted_parts : (b : Bool) (n loaded : ℕ) → cond b (Some n) None ≡ Some loaded → (b ≡ true) × (loaded ≡ n)
permitted_parts true n loaded e = (refl, cc)
permitted_parts false n loaded e = cc

replace_allowed : (m : Memory) (rd address value : ℕ) (combine : Combine) → (address % 4 == 0) ≡ true → permits m address 4 need.ReadWrite ≡ true → allowed m (Replace rd address combine value) ≡ Replace rd address combine value
replace_allowed m rd address value combine aligned permitted = rw (aligned, permitted) refl

replace_runs : (m : Memory) (hart : Hart) (rd address value : ℕ) (combine : Combine) → Begins m (Replace rd address combine value) hart → (address % 4 == 0) ≡ true → permits m address 4 need.ReadWrite ≡ true → RunsTo m hart (Replace rd address combine value)
replace_runs m hart rd address value combine b aligned permitted =
    record { running = b.running; next = sym (replace_allowed m rd address value combine aligned permitted) ∙ ap (allowed m) b.action_is }

reserve_allowed : (m : Memory) (rd address : ℕ) → (address % 4 == 0) ≡ true → permits m address 4 need.Read ≡ true → allowed m (Reserve rd address) ≡ Reserve rd address
reserve_allowed m rd address aligned permitted = rw (aligned, permitted) refl

reserve_runs : (m : Memory) (hart : Hart) (rd address : ℕ) → Begins m (Reserve rd address) hart → (address % 4 == 0) ≡ true → permits m address 4 need.Read ≡ true → RunsTo m hart (Reserve rd address)
reserve_runs m hart rd address b aligned permitted =
    record { running = b.running; next = sym (reserve_allowed m rd address aligned permitted) ∙ ap (allowed m) b.action_is }

conditional_allowed : (m : Memory) (rd address value : ℕ) → (address % 4 == 0) ≡ true → permits m address 4 need.Write ≡ true → allowed m (Conditional rd address value) ≡ Conditional rd address value
conditional_allowed m rd address value aligned permitted = rw (aligned, permitted) refl

conditional_runs : (m : Memory) (hart : Hart) (rd address value : ℕ) → Begins m (Conditional rd address value) hart → (address % 4 == 0) ≡ true → permits m address 4 need.Write ≡ true → RunsTo m hart (Conditional rd address value)
conditional_runs m hart rd address value b aligned permitted =
    record { running = b.running; next = sym (conditional_allowed m rd address value aligned permitted) ∙ ap (allowed m) b.action_is }

-- ---- a plain access that is kept back

plain_next : (m : Memory) (hart : Hart) (action : Action) → RunsTo m hart action → hart_plain m hart ≡ plain_access hart action
plain_next m hart action r = rw r.running (ap (plain_access hart) (sym r.next))

pub plain_load : (m : Memory) (hart : Hart) (rd address size : ℕ) (signed : Bool) → Begins m (Load rd address size signed) hart → (address % size == 0) ≡ true → BeginsPlain m hart address size kind.Load
plain_load m hart rd address size signed b aligned permitted =
    plain_next m hart (Load rd address size signed) (load_runs m hart rd address size signed b aligned permitted)

pub plain_store : (m : Memory) (hart : Hart) (address size value : ℕ) → Begins m (Store address size value) hart → (address % size == 0) ≡ true → BeginsPlain m hart address size kind.Store
plain_store m hart address size value b aligned permitted =
    plain_next m hart (Store address size value) (store_runs m hart address size value b aligned permitted)

-- what is said of a hart is said of the one at its place
pub keeps_there : (harts : List Hart) (m : Memory) (h : ℕ) (default : Hart) (made known : Attempt) (before after : Noted) → made ≡ known → h < length harts → KeepsBack m (get_or harts h default) made before after → KeepsBackAt m harts h known before after
keeps_there harts m h default made known before after is within kept hart found free noted =
    let there = slice_get-get_or harts h default within in
    let same : get_or harts h default ≡ hart = cc in
    let k = kept free noted in
    (sym is ∙ k.0, subst (λ (x : Hart). hart_plain m x ≡ Some after.access) same k.1)

pub not_silent : (made : Attempt) (common : Common) → made ≡ attempt.Nothing → made ≡ attempt.Silent → common ≡ Untaken
not_silent made common none silent = cc

pub not_accessed : (made : Attempt) (common : Common) → made ≡ attempt.Nothing → (made ≡ attempt.Accessed) ⊎ (made ≡ attempt.Reserved) → common ≡ Untaken
not_accessed made common none (inl accessed) = cc
not_accessed made common none (inr reserved) = cc

notes_of : (s : State) (h : ℕ) (found : Option Hart) (made : Attempt) (common : Common) (before after : Noted) → slice_get s.harts h ≡ found → is_running_hart found ≡ true → KeepsBackAt s.memory s.harts h made before after → (made ≡ attempt.Nothing → common ≡ Untaken) → NotesKept s h common before after
notes_of s h None made common before after is runs kept same free noted = cc
notes_of s h (Some hart) made common before after is runs kept same free noted =
    let k = kept hart is free noted in
    (same k.0, next_plain_is s h hart is ∙ k.1)

-- a hart that runs is there, and its next access is the machine's
pub notes_kept : (s : State) (h : ℕ) (made : Attempt) (common : Common) (before after : Noted) → is_running_hart (slice_get s.harts h) ≡ true → KeepsBackAt s.memory s.harts h made before after → (made ≡ attempt.Nothing → common ≡ Untaken) → NotesKept s h common before after
notes_kept s h made common before after runs kept same = notes_of s h (slice_get s.harts h) made common before after refl runs kept same

-- ---- a hart's own part of a step

kept_alike : (address size a b : ℕ) (r : Option ℕ) → kept (Some (record { address = address; size = size; value = a })) r ≡ kept (Some (record { address = address; size = size; value = b })) r
kept_alike address size a b None = refl
kept_alike address size a b (Some r) = refl

-- a hart sees where a write is, and not what is written
seen_alike : (address size a b : ℕ) (other : Hart) → seen_by (Some (record { address = address; size = size; value = a })) other ≡ seen_by (Some (record { address = address; size = size; value = b })) other
seen_alike address size a b other =
    ap (λ (r : Option ℕ). record other { reservation = r }) (kept_alike address size a b other.reservation)

pub moves_set : (passes : ℕ → Type 0) (m : Memory) (old new : Hart) (rd value next : ℕ) → Begins m (Set rd value next) old → new ≡ hart_after 0 old (Set rd value next) → Moves passes old new m m (Moved None) false
moves_set passes m old new rd value next b is =
    record {
      action = Set rd value next;
      runs = set_runs m old rd value next b;
      hart_is = is;
      memory_is = refl;
      event_is = refl;
      none = refl;
      quiet = refl;
      held = λ _ none. ap holds is ∙ none;
      passed = tt;
      reads = λ reserving. cc;
      seen = λ other. refl;
      sound = λ sound. sound;
    }

seen_in : (a b : Access) (other : Hart) → a ≡ b → seen_by (write_of_access b) other ≡ seen_by (write_of (Moved (Some a))) other
seen_in a b other e = ap (λ (x : Access). seen_by (write_of_access x) other) (sym e)

pub moves_load : (passes : ℕ → Type 0) (m : Memory) (old new : Hart) (rd address size loaded : ℕ) (signed : Bool) (a : Access) → Begins m (Load rd address size signed) old → (address % size == 0) ≡ true → load_permitted m address size need.Read ≡ Some loaded →
    passes old.pc → a ≡ record { pc = old.pc; first = address; size = size; read = true; write = false } → new ≡ hart_after loaded old (Load rd address size signed) → Moves passes old new m m (Moved (Some a)) false
moves_load passes m old new rd address size loaded signed a b aligned read pass e is =
    let action : Action = Load rd address size signed in
    let parts = permitted_parts (permits m address size need.Read) (load m address size) loaded read in
    record {
      action = action;
      runs = load_runs m old rd address size signed b aligned parts.0;
      hart_is = is ∙ ap (λ n. hart_after n old action) parts.1;
      memory_is = refl;
      event_is = ap (λ (x : Access). Moved (Some x)) e;
      none = refl;
      quiet = refl;
      held = λ _ none. ap holds is ∙ none;
      passed = subst (λ (x : Access). passes x.pc) (sym e) pass;
      reads = λ reserving. cc;
      seen = λ other. seen_in a (record { pc = old.pc; first = address; size = size; read = true; write = false }) other e;
      sound = λ sound. sound;
    }

pub moves_store : (passes : ℕ → Type 0) (before after : Memory) (old new : Hart) (address size value : ℕ) (a : Access) → Begins before (Store address size value) old → (address % size == 0) ≡ true → permits before address size need.Write ≡ true →
    passes old.pc → a ≡ record { pc = old.pc; first = address; size = size; read = false; write = true } → new ≡ hart_after 0 old (Store address size value) → after ≡ store before address size value → (IsSound before → IsSound after) → Moves passes old new before after (Moved (Some a)) false
moves_store passes before after old new address size value a b aligned permitted pass e is memory sound =
    record {
      action = Store address size value;
      runs = store_runs before old address size value b aligned permitted;
      hart_is = is;
      memory_is = memory;
      event_is = ap (λ (x : Access). Moved (Some x)) e;
      none = refl;
      quiet = refl;
      held = λ _ none. ap holds is ∙ none;
      passed = subst (λ (x : Access). passes x.pc) (sym e) pass;
      reads = λ reserving. cc;
      seen = λ other. seen_alike address size value 0 other ∙ seen_in a (record { pc = old.pc; first = address; size = size; read = false; write = true }) other e;
      sound = sound;
    }

pub moves_replace : (passes : ℕ → Type 0) (before after : Memory) (old new : Hart) (rd address value loaded stored : ℕ) (combine : Combine) (a : Access) → Begins before (Replace rd address combine value) old → (address % 4 == 0) ≡ true → load_permitted before address 4 need.ReadWrite ≡ Some loaded → stored ≡ combined combine loaded value →
    passes old.pc → a ≡ record { pc = old.pc; first = address; size = 4; read = true; write = true } → new ≡ hart_after loaded old (Replace rd address combine value) → after ≡ store before address 4 stored → (IsSound before → IsSound after) → Moves passes old new before after (Moved (Some a)) false
moves_replace passes before after old new rd address value loaded stored combine a b aligned read s pass e is memory sound =
    let action : Action = Replace rd address combine value in
    let parts = permitted_parts (permits before address 4 need.ReadWrite) (load before address 4) loaded read in
    record {
      action = action;
      runs = replace_runs before old rd address value combine b aligned parts.0;
      hart_is = is ∙ ap (λ n. hart_after n old action) parts.1;
      memory_is = memory ∙ ap (λ n. store before address 4 n) (s ∙ ap (λ n. combined combine n value) parts.1);
      event_is = ap (λ (x : Access). Moved (Some x)) e;
      none = refl;
      quiet = refl;
      held = λ _ none. ap holds is ∙ none;
      passed = subst (λ (x : Access). passes x.pc) (sym e) pass;
      reads = λ reserving. cc;
      seen = λ other. seen_alike address 4 (combined combine (load before address 4) value) 0 other ∙ seen_in a (record { pc = old.pc; first = address; size = 4; read = true; write = true }) other e;
      sound = sound;
    }

pub moves_reserve : (passes : ℕ → Type 0) (m : Memory) (old new : Hart) (rd address loaded : ℕ) (a : Access) → Begins m (Reserve rd address) old → (address % 4 == 0) ≡ true → load_permitted m address 4 need.Read ≡ Some loaded →
    passes old.pc → a ≡ record { pc = old.pc; first = address; size = 4; read = true; write = false } → new ≡ hart_after loaded old (Reserve rd address) → Moves passes old new m m (Moved (Some a)) true
moves_reserve passes m old new rd address loaded a b aligned read pass e is =
    let action : Action = Reserve rd address in
    let parts = permitted_parts (permits m address 4 need.Read) (load m address 4) loaded read in
    record {
      action = action;
      runs = reserve_runs m old rd address b aligned parts.0;
      hart_is = is ∙ ap (λ n. hart_after n old action) parts.1;
      memory_is = refl;
      event_is = ap (λ (x : Access). Moved (Some x)) e;
      none = refl;
      quiet = refl;
      held = λ reserving _. cc;
      passed = subst (λ (x : Access). passes x.pc) (sym e) pass;
      reads = λ _. ap (λ (x : Access). write_of_access x) e;
      seen = λ other. seen_in a (record { pc = old.pc; first = address; size = 4; read = true; write = false }) other e;
      sound = λ sound. sound;
    }

-- an SC of the word that the hart has reserved
pub moves_conditional : (passes : ℕ → Type 0) (before after : Memory) (old new : Hart) (rd address value : ℕ) (a : Access) → Begins before (Conditional rd address value) old → (address % 4 == 0) ≡ true → permits before address 4 need.Write ≡ true → reserves old.reservation address ≡ true →
    passes old.pc → a ≡ record { pc = old.pc; first = address; size = 4; read = false; write = true } → new ≡ hart_after 0 old (Conditional rd address value) → after ≡ store before address 4 value → (IsSound before → IsSound after) → Moves passes old new before after (Moved (Some a)) false
moves_conditional passes before after old new rd address value a b aligned permitted reserved pass e is memory sound =
    let action : Action = Conditional rd address value in
    let written : written_by 0 old action ≡ Some (write address 4 value) = rw reserved refl in
    record {
      action = action;
      runs = conditional_runs before old rd address value b aligned permitted;
      hart_is = is;
      memory_is = memory ∙ sym (ap (memory_after before) written);
      event_is = rw reserved (ap (λ (x : Access). Moved (Some x)) e);
      none = refl;
      quiet = refl;
      held = λ _ _. ap holds is;
      passed = subst (λ (x : Access). passes x.pc) (sym e) pass;
      reads = λ reserving. cc;
      seen = λ other. ap (λ (w : Option Write). seen_by w other) written ∙ seen_alike address 4 value 0 other ∙ seen_in a (record { pc = old.pc; first = address; size = 4; read = false; write = true }) other e;
      sound = sound;
    }

-- ---- the other harts

or_parts : (b c : Bool) → (b || c) ≡ false → (b ≡ false) × (c ≡ false)
or_parts false c h = (refl, h)
or_parts true c h = cc

kept_none : (w : Option Write) (r : Option ℕ) → is_some r ≡ false → kept w r ≡ r
kept_none None r none = refl
kept_none (Some w) None none = refl
kept_none (Some w) (Some r) none = cc

unseen : (w : Option Write) (hart : Hart) → holds hart ≡ false → seen_by w hart ≡ hart
unseen w hart none = ap (λ (r : Option ℕ). record hart { reservation = r }) (kept_none w hart.reservation none)

-- where no hart holds a reservation, none sees a write
pub none_held : (w : Option Write) (harts : List Hart) → any_holds harts ≡ false → map (seen_by w) harts ≡ harts
none_held w [] none = refl
none_held w (hart ∷ harts) none =
    let parts = or_parts (holds hart) (any_holds harts) none in
    ap (λ (x : Hart). x ∷ map (seen_by w) harts) (unseen w hart parts.0) ∙ ap (λ (xs : List Hart). hart ∷ xs) (none_held w harts parts.1)

map_seen : (v w : Option Write) (harts : List Hart) → ((other : Hart) → seen_by v other ≡ seen_by w other) → map (seen_by v) harts ≡ map (seen_by w) harts
map_seen v w [] same = refl
map_seen v w (hart ∷ harts) same =
    ap (λ (x : Hart). x ∷ map (seen_by v) harts) (same hart) ∙ ap (λ (xs : List Hart). seen_by w hart ∷ xs) (map_seen v w harts same)

-- where none holds a reservation and hart h takes none, none holds one after it
none_holds_set : (harts : List Hart) (h : ℕ) (hart moved : Hart) → slice_get harts h ≡ Some hart → (holds hart ≡ false → holds moved ≡ false) → any_holds harts ≡ false → any_holds (set harts h moved) ≡ false
none_holds_set [] h hart moved found same none = none
none_holds_set (x ∷ xs) zero hart moved found same none =
    let parts = or_parts (holds x) (any_holds xs) none in
    let is : hart ≡ x = cc in
    rw (same (ap holds is ∙ parts.0)) parts.1
none_holds_set (x ∷ xs) (suc h) hart moved found same none =
    let parts = or_parts (holds x) (any_holds xs) none in
    rw parts.0 (none_holds_set xs h hart moved found same parts.1)

-- ---- the step of its parts

abbrev pub none_hart : Hart
none_hart = record { registers = []; pc = 0; status = Running; reservation = None }

pub quick_made : (passes : ℕ → Type 0) (old new : List Hart) (before after : Memory) (h : ℕ) (hart moved : Hart) (event : Event) (reserving : Bool) → slice_get old h ≡ Some hart → Moves passes hart moved before after event reserving → new ≡ set (map (seen_by (write_of event)) old) h moved → IsQuick passes old new before after h event reserving
quick_made passes old new before after h hart moved event reserving found m is =
    let loaded : ℕ = loaded_by before m.action in
    let w : Option Write = written_by loaded hart m.action in
    let seen : map (seen_by (write_of event)) old ≡ map (seen_by w) old = sym (map_seen w (write_of event) old m.seen) in
    let harts : HartsAfter old new h loaded m.action w = rw found (is ∙ ap (λ (xs : List Hart). set xs h moved) seen ∙ ap (λ (x : Hart). set (map (seen_by w) old) h x) m.hart_is) in
    record {
      step = λ output. step_made (over old before output) (over new after output) h loaded hart m.action w event found (rw found m.runs) refl refl m.event_is harts m.memory_is (rw m.none (sym (append-nil output)));
      running = rw found m.runs.running;
      passed = m.passed;
      silent = rw (found, m.runs.running) (ap is_print (sym m.runs.next) ∙ m.quiet);
      count = harts_count old new h loaded m.action w hart found harts;
      sound = m.sound;
      held = λ common none. ap any_holds (is ∙ ap (λ (xs : List Hart). set xs h moved) (none_held (write_of event) old none)) ∙ none_holds_set old h hart moved found (m.held common) none;
    }

-- where no hart has to see the write, the hart's own part is the step
pub tried_alone : (passes : ℕ → Type 0) (old : List Hart) (before after : Memory) (h : ℕ) (default moved : Hart) (event : Option Event) (reserving : Bool) → h < length old → Tried passes (get_or old h default) moved before after event reserving → IfSome event (λ e. map (seen_by (write_of e)) old ≡ old) → TriedAt passes old (set old h moved) before after h event reserving
tried_alone passes old before after h default moved None reserving within m unseen = (ap (λ (x : Hart). set old h x) m.0 ∙ set-get_or old h default, m.1)
tried_alone passes old before after h default moved (Some event) reserving within m unseen =
    quick_made passes old (set old h moved) before after h (get_or old h default) moved event reserving (slice_get-get_or old h default within) m (ap (λ (xs : List Hart). set xs h moved) (sym unseen))

-- and else they see it after that part
seen_after : (old new : List Hart) (h : ℕ) (default moved : Hart) (w : Option Write) → h < length old → Sees (set old h moved) new h w → new ≡ set (map (seen_by w) old) h moved
seen_after old new h default moved w within sees =
    let there : slice_get (set old h moved) h ≡ Some moved = slice_get-get_or (set old h moved) h default (rw length-set within) ∙ ap Some (get_or-set_same old h moved default within) in
    let seen : new ≡ set (map (seen_by w) (set old h moved)) h moved = subst (λ (o : Option Hart). IsSomeAnd o (λ x. new ≡ set (map (seen_by w) (set old h moved)) h x)) there sees in
    seen ∙ ap (λ (xs : List Hart). set xs h moved) (map-set (seen_by w) old h moved) ∙ set-set (map (seen_by w) old) h (seen_by w moved) moved

pub tried_seen : (passes : ℕ → Type 0) (old new : List Hart) (before after : Memory) (h : ℕ) (default moved : Hart) (tried : Attempt) (a : Access) → tried ≡ attempt.Accessed → h < length old → Tried passes (get_or old h default) moved before after (event_of_attempt tried a) (is_reserving tried) → Sees (set old h moved) new h (write_of_access a) → TriedAt passes old new before after h (event_of_attempt attempt.Accessed a) false
tried_seen passes old new before after h default moved tried a is within m sees =
    let made : Moves passes (get_or old h default) moved before after (Moved (Some a)) false = subst (λ (t : Attempt). Tried passes (get_or old h default) moved before after (event_of_attempt t a) (is_reserving t)) is m in
    quick_made passes old new before after h (get_or old h default) moved (Moved (Some a)) false (slice_get-get_or old h default within) made (seen_after old new h default moved (write_of_access a) within sees)

-- what runs is there
running_at : (xs : List Hart) (h : ℕ) (o : Option Hart) → slice_get xs h ≡ o → is_running_hart o ≡ true → h < length xs
running_at xs h None is runs = cc
running_at xs h (Some hart) is runs = slice_get_within xs h hart is

pub running_within : (xs : List Hart) (h : ℕ) → is_running_hart (slice_get xs h) ≡ true → h < length xs
running_within xs h runs = running_at xs h (slice_get xs h) refl runs

-- an attempt whose access no other hart has to see, unless it was an LR, which writes nothing
abbrev pub IsUnseen : Attempt → Access → List Hart → Type 0
IsUnseen attempt.Nothing a old = ⊤
IsUnseen attempt.Silent a old = ⊤
IsUnseen attempt.Accessed a old = (any_holds old ≡ false) ⊎ (a.write ≡ false)
IsUnseen attempt.Reserved a old = ⊤

none_sees_attempt : (passes : ℕ → Type 0) (tried : Attempt) (a : Access) (old new : Hart) (before after : Memory) (harts : List Hart) → Tried passes old new before after (event_of_attempt tried a) (is_reserving tried) → IsUnseen tried a harts → IfSome (event_of_attempt tried a) (λ e. map (seen_by (write_of e)) harts ≡ harts)
none_sees_attempt passes attempt.Nothing a old new before after harts m how = tt
none_sees_attempt passes attempt.Silent a old new before after harts m how = none_seen harts
none_sees_attempt passes attempt.Accessed a old new before after harts m (inl none) = none_held (write_of_access a) harts none
none_sees_attempt passes attempt.Accessed a old new before after harts m (inr reads) =
    ap (λ (b : Bool). map (seen_by (cond b (Some (record { address = a.first; size = a.size; value = 0 })) None)) harts) reads ∙ none_seen harts
none_sees_attempt passes attempt.Reserved a old new before after harts m how =
    ap (λ (w : Option Write). map (seen_by w) harts) (m.reads refl) ∙ none_seen harts

-- then the hart's own part is the step
pub tried_unseen : (passes : ℕ → Type 0) (old : List Hart) (before after : Memory) (h : ℕ) (default moved : Hart) (tried known : Attempt) (a : Access) → tried ≡ known → h < length old → Tried passes (get_or old h default) moved before after (event_of_attempt tried a) (is_reserving tried) → IsUnseen known a old → TriedAt passes old (set old h moved) before after h (event_of_attempt known a) (is_reserving known)
tried_unseen passes old before after h default moved tried known a is within tries how =
    let m : Tried passes (get_or old h default) moved before after (event_of_attempt known a) (is_reserving known) = subst (λ (t : Attempt). Tried passes (get_or old h default) moved before after (event_of_attempt t a) (is_reserving t)) is tries in
    tried_alone passes old before after h default moved (event_of_attempt known a) (is_reserving known) within m (none_sees_attempt passes known a (get_or old h default) moved before after old m how)

pub none_taken : (passes : ℕ → Type 0) (old new : List Hart) (before after : Memory) (h : ℕ) (tried : Attempt) (a : Access) → TriedAt passes old new before after h (event_of_attempt tried a) (is_reserving tried) → is_reserving tried ≡ false → any_holds old ≡ false → any_holds new ≡ false
none_taken passes old new before after h attempt.Nothing a t common none = ap any_holds t.0 ∙ none
none_taken passes old new before after h attempt.Silent a t common none = t.held refl none
none_taken passes old new before after h attempt.Accessed a t common none = t.held refl none
none_taken passes old new before after h attempt.Reserved a t common none = cc

-- the word of a hart that runs, at its place
pub fetches_there : (harts : List Hart) (memory : Memory) (h word : ℕ) (default : Hart) → is_running_hart (slice_get harts h) ≡ true → IsWordAt harts memory h word → Fetches memory word (get_or harts h default)
fetches_there harts memory h word default runs is =
    let there = slice_get-get_or harts h default (running_within harts h runs) in
    record {
      running = subst (λ (o : Option Hart). is_running_hart o ≡ true) there runs;
      word_is = subst (λ (o : Option Hart). IsSomeAnd o (λ hart. load_permitted memory hart.pc 4 need.Execute ≡ Some word)) there is;
    }
